-- `box_columns::left_out` meets its contract: the search is the definition's, over the columns that the quadrant covers.
use Rattle.box_columns.proofs.Skips.{covered_row, covered_le, left_out_none}
use native.Mathlib.Omega.{arith}
use Rattle.box_columns.proofs.left_out.Goals as goal

pub returns-then-n-eq0 : goal.returns-then-n-eq0
returns-then-n-eq0 c = left_out_none _ _ _ c.if-n-eq0.true

pub first_inside-requires-clause-e_lt_height : goal.first_inside-requires-clause-e_lt_height
first_inside-requires-clause-e_lt_height c =
    let few = covered_le c.args.corner.radius c.args.e in
    let wide = c.requires.ready.small.width in
    (covered_row c.args.corner.radius c.args.e (omega arith), omega arith, omega arith)
