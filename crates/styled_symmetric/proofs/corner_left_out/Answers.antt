-- `styled_symmetric::corner_left_out` meets its contract: the search is the definition's, over the columns that the corner
-- covers.
use native.Mathlib.Omega.{arith}
use borrow.Author.Rules.{rules}
use mathlib.Core.Path.{sym, ap, ◌∙◌}
use Rattle.box_columns.specs.Columns.{left_out}
use Rattle.box_columns.proofs.Skips.{covered_row, covered_le, left_out_none}
use Rattle.styled_symmetric.proofs.corner_left_out.Goals as goal

pub returns-then-n-eq0 : goal.returns-then-n-eq0
returns-then-n-eq0 c =
    let a = c.args in
    left_out_none a.corner.radius a.e _ c.if-n-eq0.true
    ∙ ap (left_out a.corner.radius a.e) c.covered-n.ensures

pub first_in_corner-requires-clause-e_lt_height : goal.first_in_corner-requires-clause-e_lt_height
first_in_corner-requires-clause-e_lt_height c =
    let few = covered_le c.args.corner.radius c.args.e in
    let wide = c.requires.small.width in
    (covered_row c.args.corner.radius c.args.e (omega arith), omega arith, omega arith)

pub returns : goal.returns
unfolding left_out
returns c = rw (sym c.covered-n.ensures) (search rules)
