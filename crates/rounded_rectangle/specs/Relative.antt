-- The same counted from the box's corners, which the code computes: proofs/Rows.antt and proofs/Contains.antt equate the two. A
-- corner's column d and row e are counted from that corner of the box inward, so one function serves all four.
-- Assumes nothing.
use Rattle.std.specs.Prelude.{Bool, true, cond, ℕ, ◌-◌, ℤ, pos, ◌+ℤ◌, ◌-ℤ◌}
use Rattle.geometry_range.specs.declared.Range.{Range}
use Rattle.geometry.specs.Bounds.{wide_point, PointNear, SizeUpTo}
use Rattle.corner_radii.specs.declared.CornerRadii.{CornerRadii}
use Rattle.corner.specs.Bounds.{wide_radius, wide_stroke_side}
use Rattle.corner_radii.specs.Bounds.{RadiiUpTo}
use Rattle.rounded_rectangle.specs.declared.RoundedRectangle.{RoundedRectangle}
use Rattle.rounded_rectangle.specs.declared.Insets.{Insets}
use Rattle.rounded_rectangle.specs.declared.RoundedRectangleContains.{RoundedRectangleContains}
-- a corner: when it is ready, its test, what lies within it, and the insets of a row
pub use Rattle.corner_quadrant.specs.Quadrant.{Ready}
unfoldable pub use Rattle.corner_quadrant.specs.Quadrant.{inside_corner, in_quadrant, inset, side_inset}

-- the box that the inner functions take: a stroke area too
pub record BoundedBox (b : RoundedRectangle) : Type 0 where
  pub at : PointNear wide_point b.rectangle.top_left
  pub size : SizeUpTo wide_stroke_side b.rectangle.size
  pub corners : RadiiUpTo wide_radius b.corners

-- a box made ready
pub record ReadyBox (b : RoundedRectangleContains) : Type 0 where
  pub size : SizeUpTo wide_stroke_side b.size
  pub top_left : Ready b.top_left
  pub top_right : Ready b.top_right
  pub bottom_right : Ready b.bottom_right
  pub bottom_left : Ready b.bottom_left

-- its radii
abbrev pub radii : RoundedRectangleContains → CornerRadii
radii b =
    record {
      top_left = b.top_left.radius;
      top_right = b.top_right.radius;
      bottom_right = b.bottom_right.radius;
      bottom_left = b.bottom_left.radius;
    }

-- whether the box contains its column dx of w on its row dy of h
unfoldable pub contains_at : CornerRadii → ℕ → ℕ → ℕ → ℕ → Bool
contains_at c w h dx dy =
    cond (in_quadrant c.top_left dx dy) (inside_corner c.top_left dx dy)
    (cond (in_quadrant c.top_right (w - 1 - dx) dy) (inside_corner c.top_right (w - 1 - dx) dy)
    (cond (in_quadrant c.bottom_left dx (h - 1 - dy)) (inside_corner c.bottom_left dx (h - 1 - dy))
    (cond (in_quadrant c.bottom_right (w - 1 - dx) (h - 1 - dy)) (inside_corner c.bottom_right (w - 1 - dx) (h - 1 - dy))
    true)))

-- both insets of row dy
abbrev pub row_insets : CornerRadii → ℕ → ℕ → ℕ → Insets
row_insets c w h dy =
    record {
      left = side_inset c.top_left c.bottom_left h w dy;
      right = side_inset c.top_right c.bottom_right h w dy;
    }

-- the run between two insets of w columns
abbrev pub run_between : ℤ → ℕ → Insets → Range
run_between left w insets = record { start = left +ℤ pos insets.left; end = left +ℤ pos w -ℤ pos insets.right }
