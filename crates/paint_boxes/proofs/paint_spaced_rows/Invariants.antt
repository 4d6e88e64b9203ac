-- `paint_boxes::paint_spaced_rows` meets its contract. The invariant: the rows that are left, painted on the canvas as it is
-- now, make the whole.
use Prim.Native.Nat.{◌-◌}
use Rattle.paint_boxes.proofs.Turns.{SpacedLeft}
use Rattle.paint_boxes.proofs.paint_spaced_rows.Given as goal

abbrev pub invariant-loop : goal.invariant-loop
invariant-loop l =
    SpacedLeft l.row l.style l.size.width l.size.height l.y l.step l.count l.initial.canvas l.row_y (l.count - l.counter) l.canvas
