-- `rectangle_extent::center` meets its contract: each coordinate is the promised sum, and fits by the bounds.
use native.Mathlib.Omega.{arith}
use Rattle.signed.proofs.Laws.{int}
use Rattle.rectangle_extent.proofs.center.Goals as goal

pub add-requires : goal.add-requires
add-requires c = omega (arith, int)

pub add-requires-2 : goal.add-requires-2
add-requires-2 c = omega (arith, int)

pub returns : goal.returns
returns c = record { x_value = omega (arith, int); y_value = omega (arith, int) }
