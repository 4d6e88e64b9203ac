-- `corner::offset_radius` meets its contract: the sum fits, and is cut off at 0.
use Rattle.corner.proofs.Offset.{offset_radius_by_parts}
use native.Mathlib.Omega.{arith}
use Rattle.signed.proofs.Laws.{int}
use Rattle.corner.proofs.offset_radius.Goals as goal

pub add-grown-requires : goal.add-grown-requires
add-grown-requires c = omega (arith, int)

pub returns : goal.returns
returns c =
    omega (arith, int, offset_radius_by_parts c.args.k c.args.radius)
