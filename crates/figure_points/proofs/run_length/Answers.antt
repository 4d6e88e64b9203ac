-- `figure_points::run_length` meets its contract: the difference fits by the bounds, and is cut off at 0.
use Rattle.signed.proofs.Laws.{int, sub_law}
use native.Mathlib.Omega.{arith}
use Rattle.figure_points.proofs.run_length.Goals as goal

pub sub-requires : goal.sub-requires
sub-requires c = omega (arith, int)

pub returns : goal.returns
returns c = let r = c.args.run in omega (arith, int, sub_law r.end r.start)
