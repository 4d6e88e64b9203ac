-- A sheet written as numbers, as a host keeps it in its own memory: which numbers are one, and which one they are. Document 01 has the
-- record and not its numbers.
--     0, 1, 2               W, H, and how many of the places hold a layer
--     3 + 18 j to 20 + 18 j   place j, for j from 0 to 15: the figure's 13 numbers, the style's 4, and the next row
-- Figures and styles are written as in `host_records`.
-- Assumes nothing.
use Rattle.std.specs.Prelude.{Bool, cond, ◌&&◌, List, ◌∷◌, ◌++◌, ℕ, suc, ◌+◌, ◌*◌, min, eqb, ℤ, pos, ◌+ℤ◌, length, take, drop, set, replicate}
use Rattle.std.proofs.lemmas.List.Edits.{sets}
use Rattle.signed.specs.Signed.{floor0}
use Rattle.geometry.specs.Limits.{max_layers}
use Rattle.host_records.specs.RecordNumbers.{figure_length, style_length, absent_paint, number_at, list_from, all_from, none_negative, is_figure, is_style, figure_of, style_of}
use Rattle.sheet_layers.specs.declared.Layer.{Layer}
use Rattle.sheet.specs.declared.Sheet.{Sheet}

-- where a layer's style and its next row stand, behind its figure, and how many numbers it has
abbrev pub style_at : ℕ
style_at = figure_length

abbrev pub next_row_at : ℕ
next_row_at = figure_length + style_length

abbrev pub layer_length : ℕ
layer_length = figure_length + style_length + 1

-- where a sheet's width, its height, its count of layers and its first place stand, and how many numbers it has
abbrev pub canvas_width_at : ℕ
canvas_width_at = 0

abbrev pub canvas_height_at : ℕ
canvas_height_at = 1

abbrev pub count_at : ℕ
count_at = 2

abbrev pub first_place_at : ℕ
first_place_at = 3

abbrev pub sheet_length : ℕ
sheet_length = first_place_at + layer_length * max_layers

-- where place j begins
abbrev pub place_at : ℕ → ℕ
place_at j = first_place_at + layer_length * j

-- the numbers of place j
abbrev pub place_numbers : List ℤ → ℕ → List ℤ
place_numbers numbers j = take layer_length (drop (place_at j) numbers)

-- ---- Which numbers are a sheet: those of its length. What stands in them may still be no record, and then breaks a rule.
abbrev pub is_sheet : List ℤ → Bool
is_sheet numbers = eqb (length numbers) sheet_length

-- the numbers of a layer
abbrev pub is_layer : List ℤ → Bool
is_layer numbers = is_figure (take figure_length numbers) && is_style (take style_length (drop style_at numbers))

-- W, H and the count are not negative, and each place that holds a layer has a layer's numbers. Unused places are not looked at
unfoldable pub holds_records : List ℤ → Bool
holds_records numbers =
    none_negative (take first_place_at numbers)
    && all_from (λ j. is_layer (place_numbers numbers j)) 0 (min (floor0 (number_at numbers count_at)) max_layers)

-- ---- Which they are.

-- the layer
abbrev pub layer_of : List ℤ → Layer
layer_of numbers =
    record {
      figure = figure_of (take figure_length numbers);
      style = style_of (take style_length (drop style_at numbers));
      next_row = number_at numbers next_row_at;
    }

-- numbers that hold something else than records are read as a sheet that says 17 layers, and so breaks the rule on their number
abbrev pub count_of : List ℤ → ℕ
count_of numbers = cond (holds_records numbers) (floor0 (number_at numbers count_at)) (suc max_layers)

-- the sheet
unfoldable pub sheet_of : List ℤ → Sheet
sheet_of numbers =
    record {
      width = floor0 (number_at numbers canvas_width_at);
      height = floor0 (number_at numbers canvas_height_at);
      count = count_of numbers;
      layers = list_from (λ j. layer_of (place_numbers numbers j)) 0 max_layers;
    }

-- ---- Numbers with a layer put in a place: its figure's, its style's, and its next row.
abbrev pub layer_put : List ℤ → ℕ → List ℤ → List ℤ → ℤ → List ℤ
layer_put numbers j figure style row =
    set (sets (sets numbers (place_at j) figure) (place_at j + style_at) style) (place_at j + next_row_at) row

-- ---- Numbers whose layer i has painted one row more: its next row is the one below.
abbrev pub row_painted : List ℤ → ℕ → List ℤ
row_painted numbers i = set numbers (place_at i + next_row_at) ((layer_of (place_numbers numbers i)).next_row +ℤ pos 1)

-- ---- Numbers without the layer in place i (document 02, 'Five').

-- an unused place: an ellipse 0 by 0 at (0, 0) without paint, next row 0
abbrev pub unused_place : List ℤ
unused_place = replicate figure_length (pos 0) ++ absent_paint ∷ absent_paint ∷ replicate 3 (pos 0)

-- what stands behind place i is written one place lower, and the last place keeps its own
abbrev pub moved_down : List ℤ → ℕ → List ℤ
moved_down numbers i = sets numbers (place_at i) (drop (place_at (suc i)) numbers)

-- each place behind place i moves down one number, and the last place is left unused
abbrev pub place_removed : List ℤ → ℕ → List ℤ
place_removed numbers i = take (place_at i) numbers ++ (drop (place_at (suc i)) numbers ++ unused_place)
