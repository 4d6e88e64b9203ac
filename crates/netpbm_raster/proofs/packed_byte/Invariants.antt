-- `netpbm_raster::packed_byte` meets its contract. Invariant: the byte so far with what the pixels left add makes the whole, and the
-- weights left fit beside it. The weight falls with each turn.
use mathlib.Core.Path.{◌≡◌}
use Prim.Native.Nat.{◌+◌, ◌*◌, ◌≤◌}
use lib.ListN.{drop}
use Rattle.netpbm_raster.proofs.Bits.{weighed}
use Rattle.netpbm_raster.proofs.packed_byte.Given as goal

abbrev pub invariant-loop-weight : goal.invariant-loop-weight
invariant-loop-weight l =
    (l.byte + weighed l.weight (drop l.i l.row) ≡ weighed 128 (drop l.at l.row)) × (l.byte + 2 * l.weight ≤ 256)

abbrev pub decreases-loop-weight : goal.decreases-loop-weight
decreases-loop-weight l = l.weight
