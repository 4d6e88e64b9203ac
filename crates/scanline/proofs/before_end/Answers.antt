-- `scanline::before_end` meets its contract: the difference fits by the bounds.
use lib.IntN.{pos}
use Rattle.signed.proofs.Laws.{int, add_law}
use native.Mathlib.Omega.{arith}
use Rattle.scanline.proofs.before_end.Goals as goal

pub sub-requires : goal.sub-requires
sub-requires c = omega (arith, int)

pub returns : goal.returns
returns c = let entry = c.args in omega (arith, int, add_law entry.first (pos entry.n))
