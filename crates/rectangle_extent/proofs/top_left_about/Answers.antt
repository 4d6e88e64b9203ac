-- `rectangle_extent::top_left_about` meets its contract: each coordinate is the promised difference, and fits by the bounds.
use native.Mathlib.Omega.{arith}
use Rattle.signed.proofs.Laws.{int}
use Rattle.rectangle_extent.proofs.top_left_about.Goals as goal

pub sub-requires : goal.sub-requires
sub-requires c = omega (arith, int)

pub sub-requires-2 : goal.sub-requires-2
sub-requires-2 c = omega (arith, int)

pub returns : goal.returns
returns c = record { x_value = omega (arith, int); y_value = omega (arith, int) }
