-- A side offset by k, by parts, so that `omega` reads it.
-- Assumes nothing.
use mathlib.Core.Path.{◌≡◌}
use Prim.Native.Nat.{ℕ, ◌+◌, ◌-◌, ◌*◌}
use native.Mathlib.Omega.{arith}
use lib.IntN.{ℤ, pos, ◌*ℤ◌}
use Rattle.signed.specs.Signed.{positive_part as P, negative_part as N}
use Rattle.signed.proofs.Laws.{int, add_law, times_law}
use Rattle.rectangle_side.specs.Side.{offset_side}

-- a side offset by k, by the parts of k
pub offset_side_by_parts : (side : ℕ) (k : ℤ) → offset_side side k ≡ side + 2 * P k - 2 * N k
unfolding offset_side
offset_side_by_parts side k = omega (arith, int, add_law (pos side) (pos 2 *ℤ k), times_law 2 k)
