-- `netpbm_raster::unpack_row` meets its contract. Invariant: the pixels written and those of the bytes left make the whole row.
use mathlib.Core.Path.{◌≡◌}
use mathlib.Core.List.{◌++◌}
use Prim.Native.Nat.{◌*◌, ◌-◌, ◌≤◌}
use lib.ListN.{length, take, drop}
use Rattle.netpbm_raster.specs.Raster.{unpacked, unpacked_row}
use Rattle.netpbm_raster.proofs.unpack_row.Given as goal

abbrev pub invariant-loop-row : goal.invariant-loop-row
invariant-loop-row l =
    (l.at ≡ 8 * l.j) × (l.at ≤ length l.initial.row) × (length l.row ≡ length l.initial.row)
    × (take l.at l.row ++ take (length l.initial.row - l.at) (unpacked (drop l.j l.bytes)) ≡ unpacked_row (length l.initial.row) l.bytes)

abbrev pub decreases-loop-row : goal.decreases-loop-row
decreases-loop-row l = length l.initial.row - l.at
