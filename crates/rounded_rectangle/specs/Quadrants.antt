-- Document 01, the last paragraph of 'Corners' (`ellipse_quadrant.rs`, `get_confined_corner_quadrant`): the four quadrants of a box
-- and their tests. The box's radii are confined already.
-- Assumes nothing.
use Rattle.std.specs.Prelude.{Bool, ℕ, ◌*◌, ℤ, pos, ◌+ℤ◌, ◌-ℤ◌}
use Rattle.geometry.specs.declared.Size.{Size}
use Rattle.rectangle.specs.declared.Rectangle.{Rectangle}
use Rattle.ellipse.specs.Ellipse.{inside_about}
use Rattle.rounded_rectangle.specs.declared.RoundedRectangle.{RoundedRectangle}

-- short names for the parts of a box
abbrev pub left : RoundedRectangle → ℤ
left b = b.rectangle.top_left.x

abbrev pub top : RoundedRectangle → ℤ
top b = b.rectangle.top_left.y

abbrev pub width : RoundedRectangle → ℕ
width b = b.rectangle.size.width

abbrev pub height : RoundedRectangle → ℕ
height b = b.rectangle.size.height

abbrev pub rectangle_at : ℤ → ℤ → Size → Rectangle
rectangle_at x y s = record { top_left = record { x = x; y = y }; size = s }

-- each corner's quadrant: the rectangle of its radii in that corner of the box
abbrev pub top_left_quadrant : RoundedRectangle → Rectangle
top_left_quadrant b = rectangle_at (left b) (top b) b.corners.top_left

abbrev pub top_right_quadrant : RoundedRectangle → Rectangle
top_right_quadrant b = rectangle_at (left b +ℤ pos (width b) -ℤ pos b.corners.top_right.width) (top b) b.corners.top_right

abbrev pub bottom_right_quadrant : RoundedRectangle → Rectangle
bottom_right_quadrant b =
    rectangle_at
    (left b +ℤ pos (width b) -ℤ pos b.corners.bottom_right.width)
    (top b +ℤ pos (height b) -ℤ pos b.corners.bottom_right.height)
    b.corners.bottom_right

abbrev pub bottom_left_quadrant : RoundedRectangle → Rectangle
bottom_left_quadrant b =
    rectangle_at (left b) (top b +ℤ pos (height b) -ℤ pos b.corners.bottom_left.height) b.corners.bottom_left

-- the whole ellipse of twice the radii, at the given corner, and its test
abbrev pub inside_whole : ℤ → ℤ → Size → ℤ → ℤ → Bool
inside_whole x₀ y₀ radius x y =
    let sides : Size = record { width = 2 * radius.width; height = 2 * radius.height } in
    inside_about sides (rectangle_at x₀ y₀ sides) x y

-- a quadrant's test is that of the whole ellipse whose matching quarter fills it: the ellipse starts with the quadrant, or one
-- radius before it (`EllipseQuadrant::new`)
unfoldable pub inside_top_left : RoundedRectangle → ℤ → ℤ → Bool
inside_top_left b =
    let q = top_left_quadrant b in
    inside_whole q.top_left.x q.top_left.y q.size

unfoldable pub inside_top_right : RoundedRectangle → ℤ → ℤ → Bool
inside_top_right b =
    let q = top_right_quadrant b in
    inside_whole (q.top_left.x -ℤ pos q.size.width) q.top_left.y q.size

unfoldable pub inside_bottom_right : RoundedRectangle → ℤ → ℤ → Bool
inside_bottom_right b =
    let q = bottom_right_quadrant b in
    inside_whole (q.top_left.x -ℤ pos q.size.width) (q.top_left.y -ℤ pos q.size.height) q.size

unfoldable pub inside_bottom_left : RoundedRectangle → ℤ → ℤ → Bool
inside_bottom_left b =
    let q = bottom_left_quadrant b in
    inside_whole q.top_left.x (q.top_left.y -ℤ pos q.size.height) q.size
