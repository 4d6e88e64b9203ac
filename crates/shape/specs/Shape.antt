-- Document 01, 'Ellipse' and 'Box rows and points', of the shape that a figure's rows and test go by: its test, rows and points.
-- Assumes nothing.
use Rattle.scanline.specs.Rows.{Row}
use Rattle.std.specs.Prelude.{Bool, List, ℤ}
use Rattle.geometry.specs.declared.Point.{Point}
use Rattle.rectangle.specs.declared.Rectangle.{Rectangle}
use Rattle.rectangle.specs.Rectangle.{rows}
use Rattle.scanline.specs.Points.{points_from}
use Rattle.ellipse.specs.Ellipse.{contains as ellipse_contains}
use Rattle.ellipse_rows.specs.EllipsePoints.{row as ellipse_row}
use Rattle.rounded_rectangle.specs.ConfinedBox.{contains as confined_box_contains, row as confined_box_row}
use Rattle.shape.specs.declared.Shape.{Shape}
use Rattle.shape.specs.declared.Shape.TheVariants as shape_of

abbrev pub rectangle : Shape → Rectangle
rectangle (shape_of.Ellipse r) = r
rectangle (shape_of.RoundedBox b) = b.rectangle

-- `contains`, by the figure's kind
abbrev pub contains_shape : Shape → Point → Bool
contains_shape (shape_of.Ellipse r) p = ellipse_contains r p
contains_shape (shape_of.RoundedBox b) p = confined_box_contains b p.x p.y

-- the row at y, by the figure's kind; 'no row' where the figure lacks it
abbrev pub row_of_shape : Shape → ℤ → Row
row_of_shape (shape_of.Ellipse r) y = ellipse_row r y
row_of_shape (shape_of.RoundedBox b) y = confined_box_row b y

-- the points, row by row, up to the first empty row
unfoldable pub points_of_shape : Shape → List Point
points_of_shape s = points_from (row_of_shape s) (rows (rectangle s)).start (rectangle s).size.height
