-- `netpbm_raster::unpack_byte` meets its contract. Invariant: the pixels written, and the bits left of the byte as it is shifted, are
-- those of the whole byte.
use mathlib.Core.Path.{◌≡◌}
use mathlib.Core.List.{◌++◌}
use Prim.Native.Nat.{◌-◌}
use lib.ListN.{length, take}
use Rattle.netpbm_raster.specs.Steps.{shifted_out}
use Rattle.netpbm_raster.proofs.unpack_byte.Given as goal

abbrev pub invariant-loop-pixel : goal.invariant-loop-pixel
invariant-loop-pixel l =
    (length l.pixels ≡ length l.initial.pixels)
    × (take l.pixel-index l.pixels ++ shifted_out (length l.initial.pixels - l.pixel-index) l.rest ≡ shifted_out (length l.initial.pixels) l.byte)
