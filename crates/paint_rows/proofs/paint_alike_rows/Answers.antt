-- `paint_rows::paint_alike_rows` meets its contract. The invariant: the rows that are left, painted on the canvas as it is now, make the
-- whole.
use native.Mathlib.Omega.{arith}
use borrow.Author.Rules.{rules}
use Rattle.signed.proofs.Laws.{int}
use Rattle.paint_rows.proofs.InTurn.{rows_turn, rows_end}
use Rattle.paint_rows.proofs.paint_alike_rows.Goals as goal

pub loop-dy-preserved : goal.loop-dy-preserved
loop-dy-preserved c =
    rows_turn _ _ _ _ _ _ _ c.loop-dy.dy _ _ _ c.loop-dy-test.true
    (omega (arith, int, c.from_u32.ensures.is, c.add-row_y.ensures.is)) (search rules) c.paint_row_on.ensures c.loop-dy.invariant

pub returns : goal.returns
returns c = rows_end _ _ _ _ _ _ _ _ _ _ (omega arith) (omega (arith, int)) c.loop-dy.invariant
