-- `scanline::from_first` meets its contract: the sum fits by the bounds.
use native.Mathlib.Omega.{arith}
use Rattle.signed.proofs.Laws.{int}
use Rattle.scanline.proofs.from_first.Goals as goal

pub add-requires : goal.add-requires
add-requires c = omega (arith, int)

pub returns : goal.returns
returns c = omega (arith, int)
