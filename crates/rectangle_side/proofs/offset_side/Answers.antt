-- `rectangle_side::offset_side` meets its contract: k + k is 2k, and the sum is cut off at 0.
use Rattle.rectangle_side.proofs.Parts.{offset_side_by_parts}
use native.Mathlib.Omega.{arith}
use Rattle.signed.proofs.Laws.{int}
use Rattle.rectangle_side.proofs.offset_side.Goals as goal

pub add-requires : goal.add-requires
add-requires c = omega (arith, int)

pub add-grown-requires : goal.add-grown-requires
add-grown-requires c = omega (arith, int)

pub returns : goal.returns
returns c = omega (arith, int, offset_side_by_parts c.args.side c.args.k)
