-- A list of sheet calls written as numbers, 20 for each call: which numbers are calls, and which calls they are. Document 01 has
-- no such list; it is how demand 3 is tied to a function.
--     0                    0: a figure is added          1: a row of a layer is painted        2: a layer is removed
--     1 to 13              the figure's numbers          the layer, counted from 0, in place 1 (of both)
--     14 to 17             the style's numbers
-- Figures and styles are written as in `host_records`. The numbers of a paint call or a removal from 2 on, and 18 and 19 of any
-- call, are not looked at. A removal's background (document 02, 'Five') has no numbers: it is lent beside the list, one for all
-- removals in it. Numbers are i32: layers of 2^31 and more, which `Sheet::paint` and `Sheet::remove` take too and refuse, cannot be
-- written.
-- Assumes nothing.
use Rattle.std.specs.Prelude.{Bool, cond, ◌&&◌, List, ℕ, ◌+◌, ◌*◌, ◌/◌, ◌%◌, eqb, ℤ, pos, length, take, drop}
use Rattle.std.specs.Int.Signed.{le_z}
use Rattle.signed.specs.Signed.{floor0}
use Rattle.host_records.specs.RecordNumbers.{figure_length, style_length, number_at, list_from, all_from, within, is_figure, is_style, figure_of, style_of}
use Rattle.book.specs.Book.{Call, add, paint, remove}
use Rattle.drawing.specs.Drawing.{StyledFigure, styled_figure}

-- how many numbers a call has
abbrev pub call_length : ℕ
call_length = 20

-- where its kind stands, and behind that the layer of a paint call or a removal, or the figure and the style of an add call
abbrev pub call_kind_at : ℕ
call_kind_at = 0

abbrev pub call_layer_at : ℕ
call_layer_at = 1

abbrev pub call_figure_at : ℕ
call_figure_at = 1

abbrev pub call_style_at : ℕ
call_style_at = call_figure_at + figure_length

-- the kinds of a call; those that name a layer are the last ones
abbrev pub add_kind : ℤ
add_kind = pos 0

abbrev pub paint_kind : ℤ
paint_kind = pos 1

abbrev pub remove_kind : ℤ
remove_kind = pos 2

-- the numbers of its figure, and of its style
abbrev pub figure_part : List ℤ → List ℤ
figure_part numbers = take figure_length (drop call_figure_at numbers)

abbrev pub style_part : List ℤ → List ℤ
style_part numbers = take style_length (drop call_style_at numbers)

-- which numbers are a call
unfoldable pub is_call : List ℤ → Bool
is_call numbers =
    within add_kind remove_kind (number_at numbers call_kind_at)
    && cond (le_z paint_kind (number_at numbers call_kind_at)) (le_z (pos 0) (number_at numbers call_layer_at))
    (is_figure (figure_part numbers) && is_style (style_part numbers))

-- which call it is, with this background if it is a removal
unfoldable pub call_of : List ℕ → List ℤ → Call StyledFigure
call_of background numbers =
    cond (le_z remove_kind (number_at numbers call_kind_at)) (remove (floor0 (number_at numbers call_layer_at)) background)
    (cond (le_z paint_kind (number_at numbers call_kind_at)) (paint (floor0 (number_at numbers call_layer_at)))
    (add (styled_figure (figure_of (figure_part numbers)) (style_of (style_part numbers)))))

-- ---- The list.

-- the numbers of call j
abbrev pub call_numbers : List ℤ → ℕ → List ℤ
call_numbers numbers j = take call_length (drop (call_length * j) numbers)

-- n calls from call j on, with one background for every removal, and whether all of them are calls
abbrev pub calls_from : List ℕ → List ℤ → ℕ → ℕ → List (Call StyledFigure)
calls_from background numbers j n = list_from (λ k. call_of background (call_numbers numbers k)) j n

abbrev pub are_calls : List ℤ → ℕ → ℕ → Bool
are_calls numbers j n = all_from (λ k. is_call (call_numbers numbers k)) j n

-- the whole list
abbrev pub call_count : List ℤ → ℕ
call_count numbers = length numbers / call_length

abbrev pub calls_of : List ℕ → List ℤ → List (Call StyledFigure)
calls_of background numbers = calls_from background numbers 0 (call_count numbers)

unfoldable pub encodes_calls : List ℤ → Bool
encodes_calls numbers = eqb (length numbers % call_length) 0 && are_calls numbers 0 (call_count numbers)
