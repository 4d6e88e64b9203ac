-- What the inner functions ask of radii, and how radii compare. The bounds are those of `corner`.
-- Assumes nothing.
use Rattle.std.specs.Prelude.{ℕ, ◌≤◌}
use Rattle.geometry.specs.declared.Size.{Size}
use Rattle.geometry.specs.Bounds.{SizeUpTo}
use Rattle.corner_radii.specs.declared.CornerRadii.{CornerRadii}

-- every radius number is at most n
pub record RadiiUpTo (n : ℕ) (r : CornerRadii) : Type 0 where
  pub top_left : SizeUpTo n r.top_left
  pub top_right : SizeUpTo n r.top_right
  pub bottom_right : SizeUpTo n r.bottom_right
  pub bottom_left : SizeUpTo n r.bottom_left

-- neither side of the first size is longer than that of the second
pub record SizeWithin (a b : Size) : Type 0 where
  pub width : a.width ≤ b.width
  pub height : a.height ≤ b.height

-- no radius number of the first is larger than that of the second
pub record RadiiWithin (a b : CornerRadii) : Type 0 where
  pub top_left : SizeWithin a.top_left b.top_left
  pub top_right : SizeWithin a.top_right b.top_right
  pub bottom_right : SizeWithin a.bottom_right b.bottom_right
  pub bottom_left : SizeWithin a.bottom_left b.bottom_left
