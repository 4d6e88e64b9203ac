-- `netpbm_raster::unpack_rows` meets its contract. Invariant: the rows written and those left of the raster make the whole canvas.
use mathlib.Core.Path.{◌≡◌}
use mathlib.Core.List.{◌++◌}
use Prim.Native.Nat.{◌*◌, ◌-◌}
use lib.ListN.{length, take, drop}
use Rattle.netpbm_raster.specs.Raster.{row_bytes, unpacked_rows}
use Rattle.netpbm_raster.proofs.unpack_rows.Given as goal

abbrev pub invariant-loop : goal.invariant-loop
invariant-loop l =
    (take l.at l.canvas ++ unpacked_rows l.width (l.height - l.counter) (drop l.from l.raster) ≡ unpacked_rows l.width l.height l.raster)
    × (length l.canvas ≡ length l.initial.canvas)
    × (l.from ≡ l.counter * row_bytes l.width)
    × (l.at ≡ l.counter * l.width)
