-- `paint_rows::paint_ellipse` meets its contract. The invariant: the rows between those that are done, painted on the canvas as it is now,
-- make the whole.
use native.Mathlib.Omega.{arith}
use borrow.Author.Rules.{rules}
use Rattle.signed.proofs.Laws.{int}
use Rattle.paint_rows.proofs.Mirror.{pair_mirrored, between_turn, between_end}
use Rattle.paint_rows.proofs.paint_ellipse.Goals as goal

pub paint_twice-requires-clause-near : goal.paint_twice-requires-clause-near
paint_twice-requires-clause-near c = (search rules, search rules)

pub loop-dy-preserved : goal.loop-dy-preserved
loop-dy-preserved c =
    between_turn _ _ _ _ _ _ _ _ c.loop-dy.dy _ c.loop-dy-test.true c.mirrored_pairs-pairs.ensures.half c.loop-dy.invariant _ _ _ _
    (search rules) (omega (arith, int)) (omega (arith, int)) c.row-found.ensures
    (pair_mirrored _ _ _ _ _ _ _ _ c.mirrored_pairs-pairs.ensures (omega (arith, int)) (omega (arith, int)))
    c.paint_twice.ensures

pub returns : goal.returns
returns c =
    between_end _ _ _ _ _ _ _ _ _ _ _ (omega arith) c.mirrored_pairs-pairs.ensures.half (omega (arith, int)) c.loop-dy.invariant
