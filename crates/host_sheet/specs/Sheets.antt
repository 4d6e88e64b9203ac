-- What the calls on a sheet say to a host that keeps it as numbers (`SheetRecord`), and what they leave of the numbers and the canvas.
-- Assumes nothing.
use Rattle.std.specs.Prelude.{◌≡◌, Bool, true, cond, ◌&&◌, List, [], ◌∷◌, ◌++◌, ℕ, zero, suc, ◌+◌, ℤ, pos, set, get_or}
use Rattle.geometry.specs.Limits.{max_layers}
use Rattle.refusal.specs.Refusal.{answer_number, Outcome, unless, keeping, Checked}
use Rattle.canvas_size.specs.CanvasSize.{canvas_size_check}
use Rattle.book.specs.Book.{Call, add, paint, remove}
use Rattle.drawing.specs.Drawing.{StyledFigure, styled_figure}
use Rattle.sheet_layers.specs.Layers.{blank_layer}
use Rattle.sheet.specs.declared.Sheet.{Sheet}
use Rattle.sheet.specs.Sheet.{opened_sheet, sheet_answer, sheet_after, canvas_after}
use Rattle.host_records.specs.RecordNumbers.{is_figure, is_style, figure_of, style_of}
use Rattle.host_sheet_record.specs.SheetRecord.{next_row_at, count_at, place_at, is_sheet, sheet_of, layer_put, unused_place, place_removed}
use Rattle.host_answers.specs.HostAnswers.{no_record, if_record}

-- ---- Opening: 6, else the numbers of a sheet without layers.

-- n unused places
unfoldable pub unused_places : ℕ → List ℤ
unused_places zero = []
unused_places (suc n) = unused_place ++ unused_places n

-- the numbers of a sheet without layers (`opened_sheet`)
abbrev pub opened_numbers : ℕ → ℕ → List ℤ
opened_numbers W H = pos W ∷ pos H ∷ pos 0 ∷ unused_places max_layers

-- `Sheet::open`: they are written into the host's list
abbrev pub open_said : ℕ → ℕ → Outcome
open_said W H = unless (canvas_size_check W H) (opened_numbers W H)

-- ---- Adding, painting and removing: what the host is told; of numbers that are no sheet, figure or style, that they are no record.
abbrev pub told_of : Bool → Checked → ℕ
told_of are answer = cond are (answer_number answer) no_record

-- the numbers after a call: as they were, unless it was accepted
abbrev pub numbers_after : Bool → Checked → List ℤ → List ℤ → List ℤ
numbers_after are answer before after = if_record are before (keeping answer before after)

-- the next row of a layer
abbrev pub next_row_of : Sheet → ℕ → ℤ
next_row_of s i = (get_or s.layers i blank_layer).next_row

-- the call that adds the figure and the style that the numbers are
abbrev pub add_of : List ℤ → List ℤ → Call StyledFigure
add_of figure style = add (styled_figure (figure_of figure) (style_of style))

-- the numbers given to it are a sheet's, a figure's and a style's
abbrev pub are_records : List ℤ → List ℤ → List ℤ → Bool
are_records sheet figure style = is_sheet sheet && (is_figure figure && is_style style)

-- `Sheet::add`: the layer's numbers as given and its next row in the first unused place, and the new count
abbrev pub with_added : List ℤ → List ℤ → List ℤ → Sheet → List ℤ
with_added numbers figure style after =
    set (layer_put numbers (sheet_of numbers).count figure style (next_row_of after (sheet_of numbers).count)) count_at
    (pos after.count)

-- what the host is told of it: 1, 2, 3, 5, 7, 9, or done
unfoldable pub add_told : List ℤ → List ℤ → List ℤ → ℕ
add_told sheet figure style = told_of (are_records sheet figure style) (sheet_answer (sheet_of sheet) [] (add_of figure style))

-- the sheet's numbers after it
unfoldable pub add_numbers : List ℤ → List ℤ → List ℤ → List ℤ
add_numbers sheet figure style =
    numbers_after (are_records sheet figure style) (sheet_answer (sheet_of sheet) [] (add_of figure style)) sheet
    (with_added sheet figure style (sheet_after (sheet_of sheet) [] (add_of figure style)))

-- `Sheet::paint`: the layer's new next row, and the canvas
abbrev pub with_painted : List ℤ → ℕ → Sheet → List ℤ
with_painted numbers i after = set numbers (place_at i + next_row_at) (next_row_of after i)

-- what the host is told of it: 7, 8, 10, 11, 12, or done
unfoldable pub paint_told : List ℤ → ℕ → List ℕ → ℕ
paint_told sheet i canvas = told_of (is_sheet sheet) (sheet_answer (sheet_of sheet) canvas (paint i))

-- the sheet's numbers after it
unfoldable pub paint_numbers : List ℤ → ℕ → List ℕ → List ℤ
paint_numbers sheet i canvas =
    numbers_after (is_sheet sheet) (sheet_answer (sheet_of sheet) canvas (paint i)) sheet
    (with_painted sheet i (sheet_after (sheet_of sheet) canvas (paint i)))

-- the canvas after it
unfoldable pub paint_canvas : List ℤ → ℕ → List ℕ → List ℕ
paint_canvas sheet i canvas = if_record (is_sheet sheet) canvas (canvas_after (sheet_of sheet) canvas (paint i))

-- `Sheet::remove` (document 02, 'Five'): the layer's place taken out, the new count, and the canvas
abbrev pub with_removed : List ℤ → ℕ → Sheet → List ℤ
with_removed numbers i after = set (place_removed numbers i) count_at (pos after.count)

-- what the host is told of it: 7, 8, 10, or done
unfoldable pub remove_told : List ℤ → ℕ → List ℕ → List ℕ → ℕ
remove_told sheet i canvas background = told_of (is_sheet sheet) (sheet_answer (sheet_of sheet) canvas (remove i background))

-- the sheet's numbers after it
unfoldable pub remove_numbers : List ℤ → ℕ → List ℕ → List ℕ → List ℤ
remove_numbers sheet i canvas background =
    numbers_after (is_sheet sheet) (sheet_answer (sheet_of sheet) canvas (remove i background)) sheet
    (with_removed sheet i (sheet_after (sheet_of sheet) canvas (remove i background)))

-- the canvas after it
unfoldable pub remove_canvas : List ℤ → ℕ → List ℕ → List ℕ → List ℕ
remove_canvas sheet i canvas background =
    if_record (is_sheet sheet) canvas (canvas_after (sheet_of sheet) canvas (remove i background))

-- ---- What the numbers are afterwards: a sheet's again, and of the sheet after the call. So a list of these calls on numbers that
-- were opened is a list of `Sheet`'s own calls, for which the third demand holds (proofs/NumbersAfter.antt).
abbrev pub OpenReadsBack : Type 0
OpenReadsBack = (W H : ℕ) → (is_sheet (opened_numbers W H) ≡ true) × (sheet_of (opened_numbers W H) ≡ opened_sheet W H)

abbrev pub AddReadsBack : Type 0
AddReadsBack =
    (sheet figure style : List ℤ) → are_records sheet figure style ≡ true
    → (is_sheet (add_numbers sheet figure style) ≡ true)
    × (sheet_of (add_numbers sheet figure style) ≡ sheet_after (sheet_of sheet) [] (add_of figure style))

abbrev pub PaintReadsBack : Type 0
PaintReadsBack =
    (sheet : List ℤ) (i : ℕ) (canvas : List ℕ) → is_sheet sheet ≡ true
    → (is_sheet (paint_numbers sheet i canvas) ≡ true)
    × (sheet_of (paint_numbers sheet i canvas) ≡ sheet_after (sheet_of sheet) canvas (paint i))

abbrev pub RemoveReadsBack : Type 0
RemoveReadsBack =
    (sheet : List ℤ) (i : ℕ) (canvas background : List ℕ) → is_sheet sheet ≡ true
    → (is_sheet (remove_numbers sheet i canvas background) ≡ true)
    × (sheet_of (remove_numbers sheet i canvas background) ≡ sheet_after (sheet_of sheet) canvas (remove i background))
