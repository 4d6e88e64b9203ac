-- Two runs are equal by their ends.
-- Assumes nothing.
use Rattle.std.specs.Prelude.{◌≡◌}
use Rattle.geometry_range.specs.declared.Range.{Range}

pub range_by_fields : {a b : Range} → a.start ≡ b.start → a.end ≡ b.end → a ≡ b
range_by_fields p q i = record { start = p i; end = q i }
