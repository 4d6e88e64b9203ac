-- A styled box whose corners are all alike: the areas that it stands for, and what the code asks of it.
-- Assumes nothing.
use Rattle.std.specs.Prelude.{◌≡◌, ℕ, ◌+◌, ◌*◌, ◌<◌, ◌≤◌, pos, ◌+ℤ◌, Some, None, Option}
use Rattle.geometry.specs.declared.Size.{Size}
use Rattle.geometry.specs.Bounds.{wide_point, PointNear, SizeUpTo}
use Rattle.corner.specs.Bounds.{wide_stroke_side}
use Rattle.corner_radii.specs.declared.CornerRadii.{CornerRadii}
use Rattle.rounded_rectangle.specs.declared.RoundedRectangle.{RoundedRectangle}
use Rattle.rounded_rectangle.specs.Relative.{Ready, inset}
use Rattle.figure.specs.Bounds.{AreaRectangle}
use Rattle.styled_box.specs.declared.StyledBox.{StyledBox}
use Rattle.styled_box.specs.ReadyBox.{stroke_box, fill_box}
use Rattle.styled_symmetric.specs.declared.SymmetricBox.{SymmetricBox}

-- the same radius at each corner
abbrev pub four_corners : Size → CornerRadii
four_corners radius =
    record { top_left = radius; top_right = radius; bottom_right = radius; bottom_left = radius }

-- the areas that a symmetric box stands for
abbrev pub symmetric_stroke : SymmetricBox → RoundedRectangle
symmetric_stroke b = record { rectangle = b.area; corners = four_corners b.corner.radius }

abbrev pub symmetric_fill : SymmetricBox → RoundedRectangle
symmetric_fill b = record { rectangle = b.inner; corners = four_corners b.inner_corner.radius }

-- a symmetric box: corners on one row of the fill area do not overlap; the fill area begins as many rows below the top as it ends
-- above the
-- bottom; the corners of both areas, and the border, keep to so many rows at the top and at the bottom, and these do not meet
pub record ReadySymmetric (b : SymmetricBox) : Type 0 where
  pub area : AreaRectangle b.area
  pub inner_at : PointNear wide_point b.inner.top_left
  pub inner_size : SizeUpTo wide_stroke_side b.inner.size
  pub corner : Ready b.corner
  pub inner_corner : Ready b.inner_corner
  pub apart : 2 * b.inner_corner.radius.width ≤ b.inner.size.width
  pub above : b.inner.top_left.y ≡ b.area.top_left.y +ℤ pos b.border
  pub middle : b.inner.size.height + 2 * b.border ≡ b.area.size.height
  pub stroke_rows_lem : b.corner.radius.height ≤ b.corner_rows
  pub fill_rows : b.border + b.inner_corner.radius.height ≤ b.corner_rows
  pub half : 2 * b.corner_rows ≤ b.area.size.height

-- a symmetric box stands for the areas of this styled box; if it is not symmetric nothing is said
abbrev pub SymmetricOf : StyledBox → Option SymmetricBox → Type 0
SymmetricOf b (Some e) = (stroke_box b ≡ symmetric_stroke e) × (fill_box b ≡ symmetric_fill e) × ReadySymmetric e
SymmetricOf b None = Unit {0}

-- the inset of a side of n columns on row dy by its upper corner; 0 on the rows below that
pub record UpperInset (radius : Size) (dy n r : ℕ) : Type 0 where
  pub in_corner : dy < radius.height → r ≡ inset radius dy n
  pub past_corner : radius.height ≤ dy → r ≡ 0
  pub few : r ≤ n
