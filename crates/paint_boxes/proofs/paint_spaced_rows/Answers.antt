-- `paint_boxes::paint_spaced_rows` meets its contract. The invariant: the rows that are left, painted on the canvas as it is
-- now, make the whole.
use native.Mathlib.Omega.{arith}
use borrow.Author.Rules.{rules}
use Rattle.signed.proofs.Laws.{int}
use Rattle.paint_boxes.proofs.Turns.{counted_turn, counted_end}
use Rattle.paint_boxes.proofs.paint_spaced_rows.Goals as goal

pub loop-preserved : goal.loop-preserved
loop-preserved c =
    counted_turn _ _ _ _ _ _ _ _ _ _ c.loop.counter _ _ c.loop-test.true (omega (arith, int)) (search rules) c.paint_row_on.ensures
    c.loop.invariant

pub returns : goal.returns
returns c = counted_end _ _ _ _ _ _ _ _ _ _ _ _ (omega arith) (omega (arith, int)) c.loop.invariant
