-- `paint_boxes::paint_symmetric_box` meets its contract. The invariant: the rows between those that are done, painted on the canvas
-- as it is now,
-- make the whole. A turn paints two rows that mirror each other, or all rows that are left.
use Prim.Native.Nat.{◌-◌}
use Rattle.styled_row.specs.StyledRow.{box_styled_row}
use Rattle.styled_symmetric.specs.SymmetricBox.{symmetric_stroke, symmetric_fill}
use Rattle.paint_rows.proofs.Mirror.{RowsBetween}
use Rattle.paint_boxes.proofs.paint_symmetric_box.Given as goal

abbrev pub invariant-loop-dy : goal.invariant-loop-dy
invariant-loop-dy l =
    RowsBetween (box_styled_row (symmetric_stroke l.b) (symmetric_fill l.b)) l.style l.size.width l.size.height l.b.area.top_left.y
    l.b.area.size.height l.b.corner_rows l.initial.canvas l.dy l.canvas

abbrev pub decreases-loop-dy : goal.decreases-loop-dy
decreases-loop-dy l = l.turns - l.dy
