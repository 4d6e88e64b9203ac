-- A radius number offset by k, by the parts of k, so that `omega` reads it.
-- Assumes nothing.
use mathlib.Core.Path.{◌≡◌}
use Prim.Native.Nat.{ℕ, ◌+◌, ◌-◌}
use native.Mathlib.Omega.{arith}
use lib.IntN.{ℤ, pos}
use Rattle.signed.specs.Signed.{positive_part as P, negative_part as N}
use Rattle.signed.proofs.Laws.{add_law}
use Rattle.corner.specs.Corner.{offset_radius}

pub offset_radius_by_parts : (k : ℤ) (r : ℕ) → offset_radius k r ≡ r + P k - N k
unfolding offset_radius
offset_radius_by_parts k r = omega (arith, add_law (pos r) k)
