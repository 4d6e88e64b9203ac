-- `netpbm_raster::put_rows` meets its contract. Invariant: the rows put and those left make the whole raster.
use mathlib.Core.Path.{◌≡◌}
use Prim.Native.Nat.{◌+◌, ◌*◌, ◌-◌}
use lib.ListN.{length, drop}
use lib.Seq.{sets}
use Rattle.netpbm_raster.specs.Raster.{row_bytes, packed_rows}
use Rattle.netpbm_raster.proofs.put_rows.Given as goal

abbrev pub invariant-loop : goal.invariant-loop
invariant-loop l =
    (sets l.initial.out l.at (packed_rows l.width l.height l.canvas)
    ≡ sets l.out l.next (packed_rows l.width (l.height - l.counter) (drop l.from l.canvas)))
    × (length l.out ≡ length l.initial.out)
    × (l.next ≡ l.at + l.counter * row_bytes l.width)
    × (l.from ≡ l.counter * l.width)
