-- Document 01, 'Styled rows': the styled row at y, by the shapes of the stroke area and of the fill area.
-- Assumes nothing.
use Rattle.scanline.specs.Rows.{StyledRow}
use Rattle.std.specs.Prelude.{ℤ, None}
use Rattle.ellipse_styled.specs.EllipseStyled.{styled_by, ellipse_styled_row}
use Rattle.rounded_rectangle.specs.declared.RoundedRectangle.{RoundedRectangle}
use Rattle.rounded_rectangle.specs.RoundedRectangle.{row as rounded_rectangle_row}
use Rattle.rounded_rectangle.specs.ConfinedBox.{plain_box}
use Rattle.box_fill.specs.BoxFill.{fill_run}
use Rattle.shape.specs.declared.Shape.{Shape}
use Rattle.shape.specs.declared.Shape.TheVariants as shape_of

-- the styled row at y of a box with these areas: the fill of the stroke area's run, and what is left of the run on either side
unfoldable pub box_styled_row : RoundedRectangle → RoundedRectangle → ℤ → StyledRow
box_styled_row area fill y = styled_by (rounded_rectangle_row area y) (fill_run fill y)

-- the styled row at y, by the shapes of both areas. They are of one kind, since they come from one figure; of two kinds nothing is
-- said but that there is no row
unfoldable pub styled_row_of_shapes : Shape → Shape → ℤ → StyledRow
styled_row_of_shapes (shape_of.Ellipse area) (shape_of.Ellipse fill) y = ellipse_styled_row area fill.size y
styled_row_of_shapes (shape_of.Ellipse area) (shape_of.RoundedBox fill) y = None
styled_row_of_shapes (shape_of.RoundedBox area) (shape_of.Ellipse fill) y = None
styled_row_of_shapes (shape_of.RoundedBox area) (shape_of.RoundedBox fill) y = box_styled_row (plain_box area) (plain_box fill) y
