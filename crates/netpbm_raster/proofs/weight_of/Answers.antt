-- `netpbm_raster::weight_of` meets its contract: the test on the pixel says which bit it has.
use native.Mathlib.Omega.{arith}
use Rattle.netpbm_raster.proofs.Bits.{bit_of_zero, bit_of_other}
use Rattle.netpbm_raster.proofs.weight_of.Goals as goal

pub returns-then-pixel-eq0 : goal.returns-then-pixel-eq0
returns-then-pixel-eq0 c = (rw (bit_of_zero _ c.if-pixel-eq0.true) (omega arith), omega arith)

pub returns-else-pixel-eq0 : goal.returns-else-pixel-eq0
returns-else-pixel-eq0 c = (rw (bit_of_other _ c.if-pixel-eq0.false) (omega arith), omega arith)
