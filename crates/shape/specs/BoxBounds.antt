-- What the inner functions ask of the rectangles and boxes of figures: wider than the limits, at the numbers that a later raise of
-- them brings.
-- Assumes nothing.
use Rattle.std.specs.Prelude.{ℕ, ◌+◌}
use Rattle.rectangle.specs.declared.Rectangle.{Rectangle}
use Rattle.geometry.specs.Bounds.{PointNear, SizeUpTo}
use Rattle.corner.specs.Bounds.{wide_radius, wide_stroke_side}
pub use Rattle.corner.specs.Bounds.{wide_offset}
use Rattle.corner_radii.specs.Bounds.{RadiiUpTo}
use Rattle.rounded_rectangle.specs.declared.RoundedRectangle.{RoundedRectangle}
use Rattle.rounded_rectangle.specs.declared.ConfinedBox.{ConfinedBox}
use Rattle.rounded_rectangle.specs.ConfinedBox.{plain_box}

-- a figure's own numbers, before any offset
abbrev pub wide_position : ℕ
wide_position = 16384

abbrev pub wide_own_side : ℕ
wide_own_side = 4096

pub record OwnRectangle (r : Rectangle) : Type 0 where
  pub at : PointNear wide_position r.top_left
  pub size : SizeUpTo wide_own_side r.size

pub record OwnBox (b : RoundedRectangle) : Type 0 where
  pub rectangle : OwnRectangle b.rectangle
  pub corners : RadiiUpTo wide_own_side b.corners

-- a rectangle of a figure or of one of its areas
abbrev pub wide_area_position : ℕ
wide_area_position = wide_position + wide_offset

pub record AreaRectangle (r : Rectangle) : Type 0 where
  pub at : PointNear wide_area_position r.top_left
  pub size : SizeUpTo wide_stroke_side r.size

pub record AreaBox (b : RoundedRectangle) : Type 0 where
  pub rectangle : AreaRectangle b.rectangle
  pub corners : RadiiUpTo wide_radius b.corners

-- a confined box of a figure or of one of its areas
abbrev pub ConfinedAreaBox : ConfinedBox → Type 0
ConfinedAreaBox b = AreaBox (plain_box b)
