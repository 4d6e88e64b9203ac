-- Two tests are equal by their fields.
-- Assumes nothing.
use mathlib.Core.Path.{◌≡◌}
use Rattle.ellipse.specs.declared.EllipseContains.{EllipseContains}

pub contains_by_fields : {a b : EllipseContains} → a.x_weight ≡ b.x_weight → a.y_weight ≡ b.y_weight
    → a.threshold ≡ b.threshold → a ≡ b
contains_by_fields p q r i = record { x_weight = p i; y_weight = q i; threshold = r i }
