-- `netpbm_raster::put_row` meets its contract. Invariant: the bytes put and those left make the whole row.
use mathlib.Core.Path.{◌≡◌}
use Prim.Native.Nat.{◌+◌, ◌*◌, ◌-◌}
use lib.ListN.{length, drop}
use lib.Seq.{sets}
use Rattle.netpbm_raster.specs.Raster.{packed_bytes, row_bytes, packed_row}
use Rattle.netpbm_raster.proofs.put_row.Given as goal

abbrev pub invariant-loop-j : goal.invariant-loop-j
invariant-loop-j l =
    (sets l.initial.out l.at (packed_row (length l.row) l.row)
    ≡ sets l.out (l.at + l.j) (packed_bytes (row_bytes (length l.row) - l.j) (drop (8 * l.j) l.row)))
    × (length l.out ≡ length l.initial.out)
