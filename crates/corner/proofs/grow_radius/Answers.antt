-- `corner::grow_radius` meets its contract: the test says which case of `grown_radius` holds. The products fit 32 bits since k is at most
-- 256, and what is taken off is at most k − radius.
use mathlib.Core.Path.{sym}
use Prim.Native.Nat.{◌-◌, ◌≤◌}
use Rattle.corner.specs.EdgeBounds.{wide_offset}
use Rattle.corner.specs.Growth.{ceil_div}
use Rattle.corner.proofs.Growth.{square_le, cube_le, square_above_zero, taken_at_most, grown_below, grown_whole}
use native.Mathlib.Omega.{arith}
use Rattle.corner.proofs.grow_radius.Lts
use Rattle.corner.proofs.grow_radius.Reads
use Rattle.corner.proofs.grow_radius.Tie
use Rattle.corner.proofs.grow_radius.Goals as goal

-- the facts known at these places
abbrev Then-radius-k : Type 0
Then-radius-k = Lts.Then1 Reads.Pre Reads.Post Tie.handed_clauses

-- k − radius is within the bound of k
below_small : (c : Then-radius-k) → c.args.k - c.args.radius ≤ wide_offset
below_small c = let small = c.requires.k_le_wide_offset in omega arith

pub overflow_mul-square : goal.overflow_mul-square
overflow_mul-square c = record { fits = omega (arith, square_le c.requires.k_le_wide_offset) }

pub overflow_mul-result : goal.overflow_mul-result
overflow_mul-result c = record { fits = omega (arith, square_le (below_small c)) }

pub overflow_mul-result-then-radius-k : goal.overflow_mul-result-then-radius-k
overflow_mul-result-then-radius-k c = record { fits = omega (arith, cube_le (below_small c)) }

pub overflow_sub-result : goal.overflow_sub-result
overflow_sub-result c = square_above_zero _ _ c.if-radius-k.true

pub overflow_add-result-then-radius-k : goal.overflow_add-result-then-radius-k
overflow_add-result-then-radius-k c = record { fits = omega (arith, cube_le (below_small c), square_le c.requires.k_le_wide_offset) }

pub nonzero_div-result : goal.nonzero_div-result
nonzero_div-result c = square_above_zero _ _ c.if-radius-k.true

pub overflow_sub-result-then-radius-k : goal.overflow_sub-result-then-radius-k
unfolding ceil_div
overflow_sub-result-then-radius-k c = omega (arith, taken_at_most c.args.k c.args.radius c.if-radius-k.true)

-- below k
pub returns-then-radius-k : goal.returns-then-radius-k
unfolding ceil_div
returns-then-radius-k c = sym (grown_below _ _ c.if-radius-k.true)

-- from k on
pub returns-else-radius-k : goal.returns-else-radius-k
returns-else-radius-k c = sym (grown_whole _ _ c.if-radius-k.false)
