-- Two boxes are equal by their fields.
-- Assumes nothing.
use mathlib.Core.Path.{◌≡◌}
use Rattle.rounded_rectangle.specs.declared.RoundedRectangle.{RoundedRectangle}
use Rattle.rounded_rectangle.specs.declared.ConfinedBox.{ConfinedBox}

pub box_by_fields : {a b : RoundedRectangle} → a.rectangle ≡ b.rectangle → a.corners ≡ b.corners → a ≡ b
box_by_fields p q i = record { rectangle = p i; corners = q i }

pub confined_box_by_fields : {a b : ConfinedBox} → a.rectangle ≡ b.rectangle → a.corners ≡ b.corners → a ≡ b
confined_box_by_fields p q i = record { rectangle = p i; corners = q i }
