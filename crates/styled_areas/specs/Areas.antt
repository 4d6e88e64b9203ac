-- Document 01: stroke area and fill area (end of 'Rectangle and offset'), as the shapes by which their rows go ('Corners').
-- Assumes nothing.
use Rattle.std.specs.Prelude.{◌≡◌, ℤ, pos, neg_ℤ}
use Rattle.geometry.specs.declared.Point.{Point}
use Rattle.rectangle.specs.Rectangle.{offset as rectangle_offset}
use Rattle.shape.specs.declared.Shape.{Shape}
use Rattle.shape.specs.declared.Shape.TheVariants as shape_of
use Rattle.figure.specs.declared.Figure.{Figure}
use Rattle.figure.specs.declared.Figure.TheVariants.{Ellipse, CrateBox, W3cBox}
use Rattle.figure.specs.Figure.{confined, offset_box, offset_w3c_box, contains_shape, row_of_shape, contains, row, offset}
use Rattle.style.specs.declared.Style.{Style}
use Rattle.style.specs.Style.{outside_stroke_width, inside_stroke_width}

-- the area of a figure offset by k: a crate box is offset, then confined; a W3C box is confined, offset by its own rule, confined again
abbrev pub area : Figure → ℤ → Shape
area (Ellipse r) k = shape_of.Ellipse (rectangle_offset r k)
area (CrateBox b) k = shape_of.RoundedBox (confined (offset_box b k))
area (W3cBox b) k = shape_of.RoundedBox (offset_w3c_box b k)

-- the stroke area: the figure offset by the outside width
abbrev pub stroke_area : Figure → Style → Shape
stroke_area f style = area f (pos (outside_stroke_width style))

-- the fill area: the figure offset by minus the inside width
abbrev pub fill_area : Figure → Style → Shape
fill_area f style = area f (neg_ℤ (pos (inside_stroke_width style)))

-- for a reader: an area has the test and the rows of the figure that a public offset call gives (proofs/Areas.antt)
pub record AreaIsOffset (f : Figure) (k : ℤ) : Type 0 where
  pub contains : (p : Point) → contains_shape (area f k) p ≡ contains (offset f k) p
  pub row : (y : ℤ) → row_of_shape (area f k) y ≡ row (offset f k) y
