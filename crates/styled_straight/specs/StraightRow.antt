-- What is known of a styled box row without the corners.
-- Assumes nothing.
use Rattle.scanline.specs.Rows.{StyledRow}
use Rattle.std.specs.Prelude.{◌≡◌, ◌≤◌, max, Some, None}
use Rattle.rectangle.specs.declared.Rectangle.{Rectangle}
use Rattle.corner_radii.specs.declared.CornerRadii.{CornerRadii}
use Rattle.rounded_rectangle.specs.declared.RoundedRectangle.{RoundedRectangle}
use Rattle.styled_straight.specs.declared.Reaches.{Reaches}

-- a box with this rectangle and these corners
abbrev pub box_with : Rectangle → CornerRadii → RoundedRectangle
box_with r c = record { rectangle = r; corners = c }

-- the corners have no more rows than these, from the top down and from the bottom up
pub record Reach (c : CornerRadii) (r : Reaches) : Type 0 where
  pub upper : max c.top_left.height c.top_right.height ≤ r.upper
  pub lower : max c.bottom_left.height c.bottom_right.height ≤ r.lower

-- the runs told are those of the row; or nothing is told
abbrev pub Told : StyledRow → StyledRow → Type 0
Told (Some runs) row = Some runs ≡ row
Told None row = Unit {0}
