-- `paint_rows::paint_alike_rows` meets its contract. The invariant: the rows that are left, painted on the canvas as it is now, make the
-- whole.
use Rattle.paint_rows.proofs.InTurn.{RowsLeft}
use Rattle.paint_rows.proofs.paint_alike_rows.Given as goal

abbrev pub invariant-loop-dy : goal.invariant-loop-dy
invariant-loop-dy l =
    RowsLeft (λ _. l.row) l.style l.size.width l.size.height l.y l.count l.initial.canvas l.dy l.canvas
