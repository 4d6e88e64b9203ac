-- One place of a sheet's numbers by the tests and sums that the code makes on the numbers themselves. The laws of
-- proofs/Limits.antt and proofs/Area.antt equate them with the definitions of `host_sheet_record`, `drawing` and `sheet_layers`.
-- Assumes nothing.
use Rattle.std.specs.Prelude.{Bool, cond, ◌&&◌, ◌||◌, List, ℕ, ◌+◌, ◌-◌, ◌*◌, eqb, ℤ, pos, neg_ℤ, ◌-ℤ◌}
use Rattle.std.specs.Int.Signed.{le_z, lt_z}
use Rattle.signed.specs.Signed.{floor0, max_i32}
use Rattle.geometry.specs.Limits.{max_side, max_radius, max_position, max_stroke_width}
use Rattle.ellipse_rows.specs.Relative.{first_row_inside}
use Rattle.style.specs.Style.{outside_width}
use Rattle.book.specs.Sheet.{layer_keeps_rules}
use Rattle.drawing.specs.Drawing.{drawing}
use Rattle.sheet_layers.specs.Layers.{layer_of as layers_layer_of}
use Rattle.host_records.specs.RecordNumbers.{figure_length, kind_at, x_at, y_at, width_at, height_at, radii_at, stroke_at, fill_at, stroke_width_at, alignment_at, ellipse_kind, crate_box_kind, w3c_box_kind, inside_alignment, outside_alignment, absent_paint, max_colour, number_at, all_from, within, alignment_of}
use Rattle.host_sheet_record.specs.SheetRecord.{style_at, is_layer, layer_of}

-- ---- What is promised: the numbers are a layer's, and the layer keeps its own rules.
abbrev pub place_kept : List ℤ → Bool
place_kept numbers = is_layer numbers && layer_keeps_rules drawing (layers_layer_of (layer_of numbers))

-- ---- Limits.

-- a radius that is not negative, and within its limit unless any will do
abbrev pub radius_kept : Bool → ℤ → Bool
radius_kept any v = le_z (pos 0) v && (any || le_z v (pos max_radius))

-- the highest number that such a radius can be
abbrev pub highest_radius : Bool → ℤ
highest_radius any = cond any (pos max_i32) (pos max_radius)

-- the eight numbers of a figure's radii
unfoldable pub radii_kept : Bool → List ℤ → Bool
radii_kept any numbers = all_from (λ k. radius_kept any (number_at numbers k)) radii_at (figure_length - radii_at)

-- the figure's numbers before its radii: kind, x and y, width and height
unfoldable pub rectangle_kept : List ℤ → Bool
rectangle_kept numbers =
    (((within ellipse_kind w3c_box_kind (number_at numbers kind_at)
    && within (neg_ℤ (pos max_position)) (pos max_position) (number_at numbers x_at))
    && within (neg_ℤ (pos max_position)) (pos max_position) (number_at numbers y_at))
    && within (pos 0) (pos max_side) (number_at numbers width_at))
    && within (pos 0) (pos max_side) (number_at numbers height_at)

-- all of the figure's numbers; the radii of an ellipse may be any numbers that are not negative
unfoldable pub figure_kept : List ℤ → Bool
figure_kept numbers = rectangle_kept numbers && radii_kept (lt_z (number_at numbers kind_at) crate_box_kind) numbers

-- the style's numbers: stroke, fill, stroke width, alignment
unfoldable pub style_kept : List ℤ → Bool
style_kept numbers =
    ((within absent_paint max_colour (number_at numbers (style_at + stroke_at))
    && within absent_paint max_colour (number_at numbers (style_at + fill_at)))
    && within (pos 0) (pos max_stroke_width) (number_at numbers (style_at + stroke_width_at)))
    && within inside_alignment outside_alignment (number_at numbers (style_at + alignment_at))

-- ---- Rows.

-- how far the top of a stroke area lies above that of a figure: the outside width, and one less where the figure has no height
abbrev pub rows_above : ℕ → ℕ → ℕ
rows_above height outside = cond (eqb height 0) (outside - 1) outside

-- how many rows a stroke area has that is so wide and so high: an ellipse all or none
abbrev pub stroke_count : Bool → ℕ → ℕ → ℕ
stroke_count ellipse w h = cond ellipse (cond (first_row_inside w h) h 0) h

-- the outside width of a place's stroke
abbrev pub outside_of : List ℤ → ℕ
outside_of numbers =
    outside_width (alignment_of (number_at numbers (style_at + alignment_at))) (floor0 (number_at numbers (style_at + stroke_width_at)))

-- the first row of a place's layer
abbrev pub first_row_of : List ℤ → ℤ
first_row_of numbers = number_at numbers y_at -ℤ pos (rows_above (floor0 (number_at numbers height_at)) (outside_of numbers))

-- how many rows it has
abbrev pub count_of : List ℤ → ℕ
count_of numbers =
    stroke_count (lt_z (number_at numbers kind_at) crate_box_kind) (floor0 (number_at numbers width_at) + 2 * outside_of numbers)
    (floor0 (number_at numbers height_at) + 2 * outside_of numbers)
