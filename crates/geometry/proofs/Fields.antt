-- Two points, and two sizes, are equal by their fields.
-- Assumes nothing.
use mathlib.Core.Path.{◌≡◌}
use Rattle.geometry.specs.declared.Point.{Point}
use Rattle.geometry.specs.declared.Size.{Size}

pub point_by_fields : {a b : Point} → a.x ≡ b.x → a.y ≡ b.y → a ≡ b
point_by_fields p q i = record { x = p i; y = q i }

pub size_by_fields : {a b : Size} → a.width ≡ b.width → a.height ≡ b.height → a ≡ b
size_by_fields p q i = record { width = p i; height = q i }
