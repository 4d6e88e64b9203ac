-- Two rectangles are equal by their fields.
-- Assumes nothing.
use mathlib.Core.Path.{◌≡◌}
use Rattle.rectangle.specs.declared.Rectangle.{Rectangle}

pub rectangle_by_fields : {a b : Rectangle} → a.top_left ≡ b.top_left → a.size ≡ b.size → a ≡ b
rectangle_by_fields p q i = record { top_left = p i; size = q i }
