-- `paint_boxes::paint_symmetric_box` meets its contract. The invariant: the rows between those that are done, painted on the canvas
-- as it is now, make the whole. A turn paints two rows that mirror each other, or all rows that are left.
use native.Mathlib.Omega.{arith}
use borrow.Author.Rules.{rules}
use mathlib.Core.Path.{refl}
use Rattle.signed.proofs.Laws.{int}
use Rattle.styled_symmetric.proofs.Rows.{row_mirrored, rows_between}
use Rattle.paint_rows.proofs.Mirror.{between_end}
use Rattle.paint_boxes.proofs.Turns.{turn_further, rows_near, turn_kept}
use Rattle.paint_boxes.proofs.paint_symmetric_box.Goals as goal

pub paint_spaced_rows-requires-clause-near : goal.paint_spaced_rows-requires-clause-near
paint_spaced_rows-requires-clause-near c =
    let ready = c.requires.ready_symmetric in
    rows_near c.args.b.area.top_left.y _ _ c.loop-dy.dy ready.area.at.y ready.area.size.height ready.half c.loop-dy-test.true _
    c.turn_at-turn.ensures _ (omega (arith, int))

pub loop-dy-smaller : goal.loop-dy-smaller
loop-dy-smaller c =
    let ready = c.requires.ready_symmetric in
    let on = turn_further c.args.b.area.top_left.y _ _ c.loop-dy.dy ready.area.at.y ready.area.size.height ready.half c.loop-dy-test.true _
    c.turn_at-turn.ensures in
    omega (arith, on.0, on.1)

pub loop-dy-preserved : goal.loop-dy-preserved
loop-dy-preserved c =
    let b = c.args.b in
    let ready = c.requires.ready_symmetric in
    turn_kept _ _ _ _ _ _ _ _ c.loop-dy.dy _ c.loop-dy-test.true ready.half c.loop-dy.invariant _ c.turn_at-turn.ensures _ _
    (search rules) c.row-found.ensures _ (omega (arith, int)) c.paint_spaced_rows.ensures
    (row_mirrored b ready c.loop-dy.dy (omega arith)) (rows_between b ready c.loop-dy.dy (omega arith))

pub returns : goal.returns
returns c =
    between_end _ _ _ _ _ _ _ _ _ _ _ c.loop-dy-test.false c.requires.ready_symmetric.half refl c.loop-dy.invariant
