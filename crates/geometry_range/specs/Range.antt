-- Document 01, its first paragraph: what a run a..b holds, and when it is empty. The ends of an empty run are kept as they are
-- (`core::ops::Range<i32>`).
-- Assumes nothing.
use Rattle.std.specs.Prelude.{Bool, ◌&&◌, ℤ, int_le, int_lt}
use Rattle.geometry_range.specs.declared.Range.{Range}

-- `Range::contains`
abbrev pub contains : Range → ℤ → Bool
contains r v = int_le r.start v && int_lt v r.end

-- `Range::is_empty`
abbrev pub is_empty : Range → Bool
is_empty r = int_le r.end r.start
