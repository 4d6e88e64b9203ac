-- The definitions, computed: the table's examples of the numbers 7 to 12, sheets within the rules and not, a short list of
-- calls with its picture, and removals. The drawing is one of plain bars, which overpaint whole canvas rows in one colour.
-- Assumes nothing.
use mathlib.Core.Path.{◌≡◌, refl}
use mathlib.Core.List.{List, [], ◌∷◌, map}
use Prim.Native.Nat.{ℕ}
use lib.Dec.{ltb}
use lib.IntN.{ℤ, pos, negsuc}
use lib.ListN.{length, replicate, length-replicate}
use Rattle.refusal.specs.declared.Refusal.TheVariants.{Side}
use Rattle.refusal.specs.Refusal.{answer_number, refuse_if, Checked}
use Rattle.book.specs.Book.{Drawing, Call, add, paint, remove, has_row, has_painted}
use Rattle.book.specs.Book.{is_left, some_owes, none_left, book_answer, noted, book_after, book_answers, book_after_all}
use Rattle.book.specs.Book.{painters, overpainted}
use Rattle.book.specs.Canvas.{canvas_row, put_row, rows_from}
use Rattle.book.specs.Whole.{paint_rows, paint_whole}
use Rattle.book.specs.Sheet.{State, layer_owes, some_layer_owes, layer_keeps_rules, overtakes, none_overtakes}
use Rattle.book.specs.Sheet.{layers_keep_rules, keeps_rules, answer, with_row, carried_out, after, answers, after_all}
use Rattle.book.specs.Sheet.{opened, layer_has_painted, layer_painters, restored_row}

-- a bar: its first row, how many rows it has, and its colour
record Bar : Type 0 where
  top : ℤ
  height : ℕ
  colour : ℕ

abbrev bars : Drawing
bars =
    record {
      Item = Bar;
      refuse = λ bar. refuse_if (ltb 1024 bar.height) Side;
      first = λ bar. bar.top;
      rows = λ bar. bar.height;
      over = λ bar y row. replicate (length row) bar.colour;
      over_length = λ bar y row. length-replicate (length row) bar.colour;
      max_layers = 16;
      max_side = 1024;
    }

-- two rows, the first of them above the canvas
abbrev tall : ℕ → Bar
tall colour = record { top = negsuc 0; height = 2; colour = colour }

-- no row
abbrev flat : Bar
flat = record { top = pos 0; height = 0; colour = 5 }

-- a row more than this drawing allows
abbrev huge : Bar
huge = record { top = pos 0; height = 1025; colour = 5 }

-- n equal layers, nothing of them painted, and a canvas of so many bytes
abbrev sheet : ℕ → Bar → ℕ → State Bar
sheet n bar bytes = record { layers = replicate n (record { item = bar; next = bar.top }); canvas = replicate bytes 0 }

-- two equal layers of two rows, with these next rows
abbrev pair : ℤ → ℤ → State Bar
pair next next' =
    record {
      layers = record { item = tall 5; next = next } ∷ record { item = tall 7; next = next' } ∷ [];
      canvas = replicate 16 0;
    }

-- the table's examples of 7 to 12, on a sheet of 4 by 4
abbrev table_answers : List Checked
table_answers =
    answer bars 4 4 (sheet 17 (tall 5) 16) (paint 0)
    ∷ answer bars 4 4 (sheet 1 (tall 5) 15) (paint 0)
    ∷ answer bars 4 4 (sheet 16 (tall 5) 16) (add (tall 5))
    ∷ answer bars 4 4 (sheet 0 (tall 5) 16) (paint 0)
    ∷ answer bars 4 4 (sheet 1 flat 16) (paint 0)
    ∷ answer bars 4 4 (sheet 2 (tall 5) 16) (paint 1)
    ∷ []

table_examples : map answer_number table_answers ≡ 7 ∷ 8 ∷ 9 ∷ 10 ∷ 11 ∷ 12 ∷ []
unfolding answer keeps_rules layers_keep_rules layer_keeps_rules none_overtakes overtakes some_layer_owes layer_owes has_row
table_examples = refl

-- 1 before 7, and 8 before 10
abbrev lowest_answers : List Checked
lowest_answers =
    answer bars 4 4 (sheet 17 (tall 5) 16) (add huge) ∷ answer bars 4 4 (sheet 0 (tall 5) 15) (paint 0) ∷ []

lowest_examples : map answer_number lowest_answers ≡ 1 ∷ 8 ∷ []
unfolding answer keeps_rules layers_keep_rules layer_keeps_rules none_overtakes overtakes some_layer_owes layer_owes has_row
lowest_examples = refl

-- the rules: a side of 0, an item out of limits, a next row above the first and one past the end, a later layer that is
-- ahead; then an earlier layer that is ahead, and both layers at their end, which are within the rules
abbrev rules_answers : List Checked
rules_answers =
    answer bars 0 4 (sheet 0 (tall 5) 0) (paint 0)
    ∷ answer bars 4 4 (sheet 1 huge 16) (paint 0)
    ∷ answer bars 4 4 (pair (negsuc 1) (negsuc 0)) (paint 0)
    ∷ answer bars 4 4 (pair (pos 2) (negsuc 0)) (paint 1)
    ∷ answer bars 4 4 (pair (negsuc 0) (pos 0)) (paint 0)
    ∷ answer bars 4 4 (pair (pos 0) (negsuc 0)) (paint 1)
    ∷ answer bars 4 4 (pair (pos 1) (pos 1)) (paint 1)
    ∷ []

rules_examples : map answer_number rules_answers ≡ 7 ∷ 7 ∷ 7 ∷ 7 ∷ 7 ∷ 0 ∷ 11 ∷ []
unfolding answer keeps_rules layers_keep_rules layer_keeps_rules none_overtakes overtakes some_layer_owes layer_owes has_row
rules_examples = refl

-- a list of calls on a canvas of 2 by 2: the later bar waits for the earlier at each row, and their second row is the
-- canvas's first
abbrev lent_canvas : List ℕ
lent_canvas = 1 ∷ 2 ∷ 3 ∷ 4 ∷ []

abbrev list_calls : List (Call Bar)
list_calls =
    add (tall 5) ∷ add (tall 7) ∷ paint 1 ∷ paint 0 ∷ paint 1 ∷ paint 1 ∷ paint 0 ∷ paint 0 ∷ paint 1 ∷ paint 2 ∷ []

abbrev list_numbers : List ℕ
list_numbers = 0 ∷ 0 ∷ 12 ∷ 0 ∷ 0 ∷ 12 ∷ 0 ∷ 11 ∷ 0 ∷ 10 ∷ []

list_answers : map answer_number (answers bars 2 2 (opened bars lent_canvas) list_calls) ≡ list_numbers
unfolding answers answer keeps_rules layers_keep_rules layer_keeps_rules none_overtakes overtakes some_layer_owes layer_owes has_row
    after carried_out with_row put_row canvas_row
list_answers = refl

list_book_answers : map answer_number (book_answers bars [] list_calls) ≡ list_numbers
unfolding book_answers book_answer book_after noted none_left some_owes is_left has_row has_painted
list_book_answers = refl

list_canvas : (after_all bars 2 2 (opened bars lent_canvas) list_calls).canvas ≡ 7 ∷ 7 ∷ 3 ∷ 4 ∷ []
unfolding after_all answer keeps_rules layers_keep_rules layer_keeps_rules none_overtakes overtakes some_layer_owes layer_owes has_row
    after carried_out with_row put_row canvas_row
list_canvas = refl

list_book_row : overpainted bars (painters bars (book_after_all bars [] list_calls) (pos 0)) (pos 0) (1 ∷ 2 ∷ []) ≡ 7 ∷ 7 ∷ []
unfolding book_after_all book_answer book_after noted none_left some_owes is_left has_row has_painted painters overpainted
list_book_row = refl

whole_canvas : paint_whole bars 2 2 (tall 5) lent_canvas ≡ 5 ∷ 5 ∷ 3 ∷ 4 ∷ []
unfolding paint_rows with_row put_row canvas_row
whole_canvas = refl

-- ---- removals

-- the canvas's two rows and no other
abbrev low : ℕ → Bar
low colour = record { top = pos 0; height = 2; colour = colour }

-- three bars, all of which have painted row 0, and the last of them row 1 too
abbrev three_bars : List (Call Bar)
three_bars =
    add (tall 5) ∷ add (low 7) ∷ add (low 9) ∷ paint 0 ∷ paint 0 ∷ paint 1 ∷ paint 2 ∷ paint 1 ∷ paint 2 ∷ paint 1 ∷ []

abbrev restoring : Call Bar
restoring = remove 0 lent_canvas

-- the first leaves, then the one in the middle, then the last; then there is none
abbrev removals : List (Call Bar)
removals = restoring ∷ restoring ∷ remove 1 lent_canvas ∷ restoring ∷ restoring ∷ []

removal_answers : map answer_number (answers bars 2 2 (after_all bars 2 2 (opened bars lent_canvas) three_bars) removals)
    ≡ 0 ∷ 0 ∷ 10 ∷ 0 ∷ 10 ∷ []
unfolding answers after_all answer keeps_rules layers_keep_rules layer_keeps_rules none_overtakes overtakes some_layer_owes layer_owes has_row
    after carried_out with_row put_row canvas_row rows_from restored_row layer_has_painted layer_painters overpainted
removal_answers = refl

removal_book_answers : map answer_number (book_answers bars (book_after_all bars [] three_bars) removals) ≡ 0 ∷ 0 ∷ 10 ∷ 0 ∷ 10 ∷ []
unfolding book_answers book_after_all book_answer book_after noted none_left some_owes is_left has_row has_painted
removal_book_answers = refl

-- the figures that are left keep their counts, whether or not they have rows left, and move down one number
removal_book : book_after_all bars (book_after_all bars [] three_bars) (restoring ∷ [])
    ≡ record { item = low 7; count = 2 } ∷ record { item = low 9; count = 2 } ∷ []
unfolding book_after_all book_answer book_after noted none_left some_owes is_left has_row has_painted
removal_book = refl

removal_half_painted : book_after_all bars [] (add (tall 5) ∷ add (low 7) ∷ paint 0 ∷ paint 0 ∷ paint 1 ∷ restoring ∷ [])
    ≡ record { item = low 7; count = 1 } ∷ []
unfolding book_after_all book_answer book_after noted none_left some_owes is_left has_row has_painted
removal_half_painted = refl

-- a canvas of any bytes, and three layers that have painted: the first both its rows, the second and the third the canvas's first
abbrev painted : State Bar
painted =
    record {
      layers = record { item = tall 5; next = pos 1 } ∷ record { item = low 7; next = pos 1 } ∷ record { item = low 9; next = pos 1 } ∷ [];
      canvas = 11 ∷ 12 ∷ 13 ∷ 14 ∷ [];
    }

-- the row that the first had painted is the background's, with the second and then the third over it; the other stays
removed_first : (after bars 2 2 painted restoring).canvas ≡ 9 ∷ 9 ∷ 13 ∷ 14 ∷ []
unfolding answer keeps_rules layers_keep_rules layer_keeps_rules none_overtakes overtakes some_layer_owes layer_owes has_row
    after carried_out canvas_row rows_from restored_row layer_has_painted layer_painters overpainted
removed_first = refl

-- one layer alone: the row that it had painted is the background's. It has a row on the canvas that it has not painted, which stays
removed_only : after bars 2 2 (record { layers = record { item = low 7; next = pos 1 } ∷ []; canvas = 11 ∷ 12 ∷ 13 ∷ 14 ∷ [] }) restoring
    ≡ record { layers = []; canvas = 1 ∷ 2 ∷ 13 ∷ 14 ∷ [] }
unfolding answer keeps_rules layers_keep_rules layer_keeps_rules none_overtakes overtakes some_layer_owes layer_owes has_row
    after carried_out canvas_row rows_from restored_row layer_has_painted layer_painters overpainted
removed_only = refl

-- a layer that has not painted the row is not laid over it: the second has painted nothing
removed_beside_unpainted : after bars 2 2
    (record {
      layers = record { item = tall 5; next = pos 1 } ∷ record { item = low 7; next = pos 0 } ∷ [];
      canvas = 11 ∷ 12 ∷ 13 ∷ 14 ∷ [];
    })
    restoring
    ≡ record { layers = record { item = low 7; next = pos 0 } ∷ []; canvas = 1 ∷ 2 ∷ 13 ∷ 14 ∷ [] }
unfolding answer keeps_rules layers_keep_rules layer_keeps_rules none_overtakes overtakes some_layer_owes layer_owes has_row
    after carried_out canvas_row rows_from restored_row layer_has_painted layer_painters overpainted
removed_beside_unpainted = refl

-- 7 before 8, 8 for either buffer before 10, and no other number: a layer above the canvas leaves like any other
abbrev removal_numbers : List Checked
removal_numbers =
    answer bars 4 4 (sheet 17 (tall 5) 15) (remove 0 [])
    ∷ answer bars 4 4 (sheet 0 (tall 5) 15) (remove 0 (replicate 16 0))
    ∷ answer bars 4 4 (sheet 0 (tall 5) 16) (remove 0 (replicate 15 0))
    ∷ answer bars 4 4 (sheet 1 (tall 5) 16) (remove 1 (replicate 16 0))
    ∷ answer bars 4 4 (sheet 1 flat 16) (remove 0 (replicate 16 0))
    ∷ answer bars 4 4 (sheet 2 (tall 5) 16) (remove 1 (replicate 16 0))
    ∷ answer bars 4 4 (sheet 1 (record { top = negsuc 8; height = 2; colour = 5 }) 16) (remove 0 (replicate 16 0))
    ∷ []

removal_numbers_lem : map answer_number removal_numbers ≡ 7 ∷ 8 ∷ 8 ∷ 10 ∷ 0 ∷ 0 ∷ 0 ∷ []
unfolding answer keeps_rules layers_keep_rules layer_keeps_rules none_overtakes overtakes some_layer_owes layer_owes has_row
removal_numbers_lem = refl
