-- Two pairs of insets are equal by their fields.
-- Assumes nothing.
use mathlib.Core.Path.{◌≡◌}
use Rattle.rounded_rectangle.specs.declared.Insets.{Insets}

pub insets_by_fields : {a b : Insets} → a.left ≡ b.left → a.right ≡ b.right → a ≡ b
insets_by_fields p q i = record { left = p i; right = q i }
