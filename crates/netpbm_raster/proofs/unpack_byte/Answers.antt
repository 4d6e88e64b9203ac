-- `netpbm_raster::unpack_byte` meets its contract. Invariant: the pixels written, and the bits left of the byte as it is shifted, are
-- those of the whole byte.
use mathlib.Core.Path.{◌∙◌}
use lib.ListN.{length, length-set}
use Rattle.netpbm_raster.proofs.Bits.{shifted_step, shifted_done}
use Rattle.netpbm_raster.proofs.unpack_byte.Goals as goal

pub loop-pixel-preserved : goal.loop-pixel-preserved
loop-pixel-preserved c = (
  simp length-set c.loop-pixel.invariant.0,
  shifted_step c.loop-pixel.pixels c.loop-pixel.pixel-index (length c.args.pixels.now) c.loop-pixel.rest c.loop-pixel-test.true
      c.loop-pixel.invariant.0 ∙ c.loop-pixel.invariant.1,
)

pub returns : goal.returns
returns c =
    shifted_done c.loop-pixel.pixels _ c.loop-pixel.pixel-index (length c.args.pixels.now) c.loop-pixel.rest c.loop-pixel-test.false
    c.loop-pixel.invariant.0 c.loop-pixel.invariant.1
