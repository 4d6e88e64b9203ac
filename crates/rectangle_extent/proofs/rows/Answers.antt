-- `rectangle_extent::rows` meets its contract: the end is the promised sum, and fits by the bounds.
use native.Mathlib.Omega.{arith}
use Rattle.signed.proofs.Laws.{int}
use Rattle.rectangle_extent.proofs.rows.Goals as goal

pub add-requires : goal.add-requires
add-requires c = omega (arith, int)

pub returns : goal.returns
returns c = record { start_value = omega (arith, int); end_value = omega (arith, int) }
