-- `box_fill::place_in` meets its contract: the difference, cut off at 0 and at n.
use Rattle.signed.proofs.Laws.{int, sub_law}
use native.Mathlib.Omega.{arith}
use Rattle.box_fill.proofs.place_in.Goals as goal

pub sub-requires : goal.sub-requires
sub-requires c = omega (arith, int)

pub returns : goal.returns
returns c =
    let entry = c.args in
    (omega (arith, int, sub_law entry.v entry.first), omega arith)
