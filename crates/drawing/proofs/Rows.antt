-- The rows of a stroke area by the figure's kind: radii play no part. They start near, and are no more than a side allows. Off them a
-- styled figure has no row, and sets nothing.
-- Assumes nothing.
use Rattle.scanline.specs.Rows.{StyledRow}
use Rattle.std.specs.Prelude.{None}
use mathlib.Core.Path.{◌≡◌, refl, ap}
use mathlib.Core.Bool.{Bool, true, false, cond, ◌&&◌}
use mathlib.Core.List.{List}
use Prim.Native.Nat.{ℕ, ◌≤◌}
use native.Mathlib.Omega.{arith}
use lib.IntN.{ℤ, pos, ◌+ℤ◌}
use Rattle.signed.specs.Signed.{Near}
use Rattle.rectangle.specs.declared.Rectangle.{Rectangle}
use Rattle.geometry.specs.declared.Size.{Size}
use Rattle.geometry_range.specs.declared.Range.{Range}
use Rattle.geometry_range.specs.Range.{contains as range_contains}
use Rattle.rectangle.specs.Rectangle.{rows, offset as rectangle_offset}
use Rattle.ellipse_rows.specs.EllipsePoints.{row as ellipse_row}
use Rattle.ellipse_rows.specs.EllipsePoints.{scanline, row_count, has_rows}
use Rattle.ellipse_styled.specs.EllipseStyled.{styled_by, ellipse_fill, ellipse_styled_row}
use Rattle.corner.specs.Bounds.{wide_stroke_side}
use Rattle.rounded_rectangle.specs.declared.RoundedRectangle.{RoundedRectangle}
use Rattle.figure.specs.declared.Figure.TheVariants.{Ellipse, CrateBox, W3cBox}
use Rattle.rounded_rectangle.specs.RoundedRectangle.{row as rounded_rectangle_row}
use Rattle.rounded_rectangle.specs.ConfinedBox.{plain_box}
use Rattle.shape.specs.declared.Shape.{Shape}
use Rattle.shape.specs.declared.Shape.TheVariants as shape_of
use Rattle.figure.specs.Figure.{confined, confined_w3c, offset_box, spread_box}
use Rattle.figure.specs.Bounds.{wide_area_position, AreaRectangle}
use Rattle.style.specs.declared.Style.{Style}
use Rattle.style.specs.Style.{outside_stroke_width}
use Rattle.styled_row.specs.StyledRow.{box_styled_row, styled_row_of_shapes}
use Rattle.styled.specs.Styled.{stroke_area, fill_area}
use Rattle.canvas.specs.Canvas.{overpaint}
use Rattle.book.specs.Book.{in_run, has_row}
use Rattle.drawing.specs.declared.StrokeRows.{StrokeRows}
use Rattle.drawing.specs.Rows.{box_rows, ellipse_rows, rows_of_shape, stroke_rows}
use Rattle.drawing.specs.Drawing.{StyledFigure, overpaint_by, drawing}

module _ (style : Style) where
  abbrev outside : ℤ
  outside = pos (outside_stroke_width style)

  pub rows_of_ellipse : (r : Rectangle) → stroke_rows (Ellipse r) style ≡ ellipse_rows (rectangle_offset r outside)
  unfolding stroke_rows
  rows_of_ellipse r = refl

  pub rows_of_crate_box : (b : RoundedRectangle)
      → stroke_rows (CrateBox b) style ≡ box_rows (rectangle_offset b.rectangle outside)
  unfolding stroke_rows confined offset_box
  rows_of_crate_box b = refl

  pub rows_of_w3c_box : (b : RoundedRectangle)
      → stroke_rows (W3cBox b) style ≡ box_rows (rectangle_offset b.rectangle outside)
  unfolding stroke_rows confined_w3c spread_box
  rows_of_w3c_box b = refl

-- where rows lie
pub record RowsWithin (rows : StrokeRows) : Type 0 where
  pub first : Near wide_area_position rows.first
  pub count : rows.count ≤ wide_stroke_side

pub box_rows_within : (r : Rectangle) → AreaRectangle r → RowsWithin (box_rows r)
box_rows_within r area = record { first = area.at.y; count = area.size.height }

row_count_le : (r : Rectangle) → row_count r ≤ r.size.height
unfolding row_count
row_count_le r = by_rows (has_rows r)
  where
    by_rows : (has : Bool) → cond has r.size.height 0 ≤ r.size.height
    by_rows true = omega arith
    by_rows false = omega arith

pub ellipse_rows_within : (r : Rectangle) → AreaRectangle r → RowsWithin (ellipse_rows r)
ellipse_rows_within r area =
    record { first = area.at.y; count = let high = area.size.height in omega (arith, row_count_le r) }

-- ---- off its rows a styled figure has none
abbrev within : StrokeRows → ℤ → Bool
within rows y = in_run rows.first (rows.first +ℤ pos rows.count) y

off_box_rows : (area fill : RoundedRectangle) (y : ℤ) → within (box_rows area.rectangle) y ≡ false → box_styled_row area fill y ≡ None
unfolding box_styled_row rounded_rectangle_row
off_box_rows area fill y off = rw off

off_ellipse_rows : (area : Rectangle) (sides : Size) (y : ℤ) → within (ellipse_rows area) y ≡ false
    → ellipse_styled_row area sides y ≡ None
unfolding ellipse_styled_row ellipse_row row_count
off_ellipse_rows area sides y = by_rows (has_rows area) (ellipse_fill sides area y)
  where
    by_rows : (has : Bool) (fill : Range → Range)
        → in_run area.top_left.y (area.top_left.y +ℤ pos (cond has area.size.height 0)) y ≡ false
        → styled_by (cond (range_contains (rows area) y && has) (scanline area y) None) fill ≡ None
    by_rows true fill off = rw off
    by_rows false fill off = ends (range_contains (rows area) y)
      where
        ends : (t : Bool) → styled_by (cond (t && false) (scanline area y) None) fill ≡ None
        ends true = refl
        ends false = refl

off_shape_rows : (stroke fill : Shape) (y : ℤ) → within (rows_of_shape stroke) y ≡ false → styled_row_of_shapes stroke fill y ≡ None
unfolding styled_row_of_shapes
off_shape_rows (shape_of.Ellipse area) (shape_of.Ellipse inner) y off = off_ellipse_rows area inner.size y off
off_shape_rows (shape_of.Ellipse area) (shape_of.RoundedBox b) y off = refl
off_shape_rows (shape_of.RoundedBox b) (shape_of.Ellipse inner) y off = refl
off_shape_rows (shape_of.RoundedBox b) (shape_of.RoundedBox inner) y off = off_box_rows (plain_box b) (plain_box inner) y off

pub sets_nothing_off_rows : (item : StyledFigure) (y : ℤ) (row : List ℕ) → has_row drawing item y ≡ false → overpaint_by item y row ≡ row
unfolding has_row stroke_rows overpaint_by
sets_nothing_off_rows item y row off =
    ap (λ (r : StyledRow). overpaint item.style r row)
    (off_shape_rows (stroke_area item.figure item.style) (fill_area item.figure item.style) y off)
