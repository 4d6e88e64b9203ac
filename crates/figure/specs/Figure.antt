-- Document 01: figures, their offset, their test, rows and points ('The records', 'Rectangle and offset', 'Ellipse', 'Corners', 'Box
-- rows and points').
-- Assumes nothing.
use Rattle.scanline.specs.Rows.{Row}
use Rattle.std.specs.Prelude.{Bool, List, ℤ}
use Rattle.geometry.specs.declared.Point.{Point}
use Rattle.rectangle.specs.declared.Rectangle.{Rectangle}
use Rattle.rectangle.specs.Rectangle.{offset as rectangle_offset}
use Rattle.rounded_rectangle.specs.ConfinedBox.{plain_box}
unfoldable pub use Rattle.shape.specs.BoxRules.{confined, confined_w3c, offset_box, spread_box}
pub use Rattle.shape.specs.BoxRules.{offset_w3c_box}
use Rattle.figure.specs.declared.Figure.{Figure}
use Rattle.figure.specs.declared.Figure.TheVariants.{Ellipse, CrateBox, W3cBox}
use Rattle.shape.specs.declared.Shape.{Shape}
use Rattle.shape.specs.declared.Shape.TheVariants as shape_of
-- a shape's rectangle, test, rows and points, by its kind
pub use Rattle.shape.specs.Shape.{rectangle, contains_shape, row_of_shape}
unfoldable pub use Rattle.shape.specs.Shape.{points_of_shape}

-- the rectangle of a figure as it is given ('The records')
abbrev pub own_rectangle : Figure → Rectangle
own_rectangle (Ellipse r) = r
own_rectangle (CrateBox b) = b.rectangle
own_rectangle (W3cBox b) = b.rectangle

-- a figure offset by k: a crate box is not confined; a W3C box is confined, offset by its own rule, confined again
abbrev pub offset : Figure → ℤ → Figure
offset (Ellipse r) k = Ellipse (rectangle_offset r k)
offset (CrateBox b) k = CrateBox (offset_box b k)
offset (W3cBox b) k = W3cBox (plain_box (offset_w3c_box b k))

-- the shape that a figure's rows and test go by: its radii are confined by its own rule. An offset W3C box is confined already, and
-- confining it once more changes no radius (`w3c_confine_twice`)
abbrev pub shape : Figure → Shape
shape (Ellipse r) = shape_of.Ellipse r
shape (CrateBox b) = shape_of.RoundedBox (confined b)
shape (W3cBox b) = shape_of.RoundedBox (confined_w3c b)

-- `contains` of the shape
abbrev pub contains : Figure → Point → Bool
contains f p = contains_shape (shape f) p

-- the row of the shape at y; 'no row' where the figure lacks it
abbrev pub row : Figure → ℤ → Row
row f y = row_of_shape (shape f) y

-- the points of the shape, row by row, up to the first empty row
abbrev pub points : Figure → List Point
points f = points_of_shape (shape f)
