-- `paint_rows::paint_box_rows` meets its contract. The invariant: the rows that are left, painted on the canvas as it is now, make the
-- whole. A
-- turn paints as many rows as are alike.
use Prim.Native.Nat.{◌-◌}
use Rattle.styled_row.specs.StyledRow.{box_styled_row}
use Rattle.styled_box.specs.ReadyBox.{stroke_box, fill_box}
use Rattle.paint_rows.proofs.InTurn.{RowsLeft}
use Rattle.paint_rows.proofs.paint_box_rows.Given as goal

abbrev pub invariant-loop-dy : goal.invariant-loop-dy
invariant-loop-dy l =
    RowsLeft (box_styled_row (stroke_box (l.b)) (fill_box (l.b))) l.style l.size.width l.size.height l.y l.count l.initial.canvas l.dy l.canvas

abbrev pub decreases-loop-dy : goal.decreases-loop-dy
decreases-loop-dy l = l.count - l.dy
