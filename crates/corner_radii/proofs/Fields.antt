-- Two structs are equal by their fields.
-- Assumes nothing.
use mathlib.Core.Path.{◌≡◌}
use Rattle.corner_radii.specs.declared.CornerRadii.{CornerRadii}
use Rattle.corner_radii.specs.declared.ConfinedRadii.{ConfinedRadii}

pub corner_radii_by_fields : {a b : CornerRadii} → a.top_left ≡ b.top_left → a.top_right ≡ b.top_right
    → a.bottom_right ≡ b.bottom_right → a.bottom_left ≡ b.bottom_left → a ≡ b
corner_radii_by_fields p q u v i =
    record { top_left = p i; top_right = q i; bottom_right = u i; bottom_left = v i }

pub confined_radii_by_fields : {a b : ConfinedRadii} → a.radii ≡ b.radii → a.length ≡ b.length → a.sum ≡ b.sum → a ≡ b
confined_radii_by_fields p q u i = record { radii = p i; length = q i; sum = u i }
