-- `paint_rows::paint_box_rows` meets its contract. The invariant: the rows that are left, painted on the canvas as it is now, make the
-- whole. A turn paints as many rows as are alike.
use native.Mathlib.Omega.{arith}
use borrow.Author.Rules.{rules}
use lib.IntN.{pos}
use mir.Syntax.{w32}
use mir.Val.{to_z, of_z}
use mir.Facts.{to_z-of_z}
use Rattle.signed.proofs.Laws.{int, add_law}
use Rattle.paint_rows.proofs.InTurn.{alike_turns, rows_end}
use Rattle.paint_rows.proofs.paint_box_rows.Goals as goal

pub row-found-requires : goal.row-found-requires
row-found-requires c =
    let near = c.requires.near.0 in
    let few = c.requires.near.1 in
    let more = c.loop-dy-test.true in
    let down = add_law (to_z w32 (of_z w32 c.args.y)) (pos c.loop-dy.dy) in
    let sum = c.add-row_y.ensures.is in
    let step = c.from_u32.ensures.is in
    record {
      ready_styled_box = c.requires.ready_styled_box;
      near = rw (to_z-of_z c.add-row_y.ensures.fits)
          (record { above = omega (arith, int, down); below = omega (arith, int, down); fits = c.add-row_y.ensures.fits });
    }

pub rows_alike-requires : goal.rows_alike-requires
rows_alike-requires c =
    let near = c.requires.near.0 in
    let few = c.requires.near.1 in
    let more = c.loop-dy-test.true in
    let down = add_law (to_z w32 (of_z w32 c.args.y)) (pos c.loop-dy.dy) in
    let sum = c.add-row_y.ensures.is in
    let step = c.from_u32.ensures.is in
    record {
      ready_styled_box = c.requires.ready_styled_box;
      near = rw (to_z-of_z c.add-row_y.ensures.fits)
          (record { above = omega (arith, int, down); below = omega (arith, int, down); fits = c.add-row_y.ensures.fits });
    }

pub paint_alike_rows-requires : goal.paint_alike_rows-requires
paint_alike_rows-requires c =
    let near = c.requires.near.0 in
    let few = c.requires.near.1 in
    let more = c.loop-dy-test.true in
    let down = add_law (to_z w32 (of_z w32 c.args.y)) (pos c.loop-dy.dy) in
    let sum = c.add-row_y.ensures.is in
    let step = c.from_u32.ensures.is in
    let n = c.least-alike.ensures in
    record {
      canvas_len = c.loop-dy.invariant.size;
      width_le_wide_side = c.requires.width_le_wide_side;
      near = (
        rw (to_z-of_z c.add-row_y.ensures.fits)
            (record { above = omega (arith, int, down); below = omega (arith, int, down); fits = c.add-row_y.ensures.fits }),
        omega (arith, n, few),
      );
    }

pub from_u32-requires : goal.from_u32-requires
from_u32-requires c = omega (arith, int)

pub add-row_y-requires : goal.add-row_y-requires
add-row_y-requires c = omega (arith, int)

pub overflow_add-dy : goal.overflow_add-dy
overflow_add-dy c = omega (arith, c.least-alike.ensures)

pub loop-dy-smaller : goal.loop-dy-smaller
loop-dy-smaller c = omega (arith, c.rows_alike.ensures.0, c.least-alike.ensures, c.loop-dy-test.true)

pub shape_of-canvas : goal.shape_of-canvas
shape_of-canvas c = omega (arith, int)

pub loop-dy-preserved : goal.loop-dy-preserved
loop-dy-preserved c =
    alike_turns _ _ _ _ _ _ _ c.loop-dy.dy c.least-alike.result _ _ _ _ c.loop-dy-test.true (omega (arith, c.least-alike.ensures))
    (omega (arith, int)) (search rules) c.row-found.ensures
    (λ k l. c.rows_alike.ensures.1 k (omega (arith, c.least-alike.ensures, l))) c.paint_alike_rows.ensures c.loop-dy.invariant

pub returns : goal.returns
returns c = rows_end _ _ _ _ _ _ _ _ _ _ c.loop-dy-test.false (omega (arith, int)) c.loop-dy.invariant
