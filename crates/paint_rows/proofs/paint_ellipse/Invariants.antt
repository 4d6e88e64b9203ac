-- `paint_rows::paint_ellipse` meets its contract. The invariant: the rows between those that are done, painted on the canvas as it is now,
-- make the whole.
use Rattle.ellipse_styled.specs.EllipseStyled.{ellipse_styled_row}
use Rattle.paint_rows.proofs.Mirror.{RowsBetween}
use Rattle.paint_rows.proofs.paint_ellipse.Given as goal

abbrev pub invariant-loop-dy : goal.invariant-loop-dy
invariant-loop-dy l =
    RowsBetween (ellipse_styled_row l.ellipse.area l.ellipse.sides) l.style l.size.width l.size.height
    l.y l.count l.pairs l.initial.canvas l.dy l.canvas
