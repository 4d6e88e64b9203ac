-- `figure_points::put_points` meets its contract. The invariant: the rows from dy on are left to write, from index `at` on
-- (`RowsLeft`).
use mathlib.Core.Path.{sym, ◌∙◌}
use lib.Seq.{sets}
use mir.Facts.{to_z-of_z}
use Rattle.scanline.specs.Points.{run_points, entries}
use Rattle.scanline.proofs.Listing.{rows_left_room, rows_left_next, points_after_all, points_after_empty, points_after_no_row}
use Rattle.figure_points.proofs.Listed.{row_told, run_start_fits, write_start, write_done}
use native.Mathlib.Omega.{arith}
use Rattle.figure_points.proofs.put_points.Goals as goal

pub loop-dy-init : goal.loop-dy-init
loop-dy-init c =
    write_start c.args.shape c.rectangle-rectangle.result c.requires.bounded_shape c.rectangle-rectangle.ensures _ c.requires.shape_in_bounds

pub returns-in_default : goal.returns-in_default
returns-in_default c =
    write_done c.args.shape c.rectangle-rectangle.result c.requires.bounded_shape c.rectangle-rectangle.ensures c.loop-dy.invariant
    (points_after_no_row _ _ _ _ c.loop-dy-test.true (row_told _ _ _ _ c.from_first-y.ensures c.row.ensures.0 ∙ c.in_default.is))

pub returns-then-is_empty : goal.returns-then-is_empty
returns-then-is_empty c =
    write_done c.args.shape c.rectangle-rectangle.result c.requires.bounded_shape c.rectangle-rectangle.ensures c.loop-dy.invariant
    (points_after_empty _ _ _ _ _ c.loop-dy-test.true (row_told _ _ _ _ c.from_first-y.ensures c.row.ensures.0 ∙ c.in-Some.is)
    (sym c.is_empty.ensures ∙ c.if-is_empty.true))

pub put_run-at-requires-clause-n_in_bounds : goal.put_run-at-requires-clause-n_in_bounds
put_run-at-requires-clause-n_in_bounds c =
    let room = rows_left_room _ _ _ c.loop-dy.invariant c.loop-dy-test.true c.in-Some.run'
    (row_told _ _ _ _ c.from_first-y.ensures c.row.ensures.0 ∙ c.in-Some.is) (sym c.is_empty.ensures ∙ c.if-is_empty.false) in
    omega (arith, c.run_length.ensures)

pub loop-dy-preserved : goal.loop-dy-preserved
loop-dy-preserved c =
    let fits = run_start_fits c.args.shape c.requires.bounded_shape _ _ c.row.ensures.1 c.in-Some.is in
    rows_left_next _ _ _ c.loop-dy.invariant c.loop-dy-test.true c.in-Some.run'
    (row_told _ _ _ _ c.from_first-y.ensures c.row.ensures.0 ∙ c.in-Some.is) (sym c.is_empty.ensures ∙ c.if-is_empty.false)
    (c.put_run-at.ensures.1
    ∙ (λ i. sets c.loop-dy.list c.loop-dy.at
    (entries (run_points ((to_z-of_z c.from_first-y.ensures.fits ∙ c.from_first-y.ensures.is) i) (to_z-of_z fits i) (c.run_length.ensures i)))))
    (omega (arith, c.put_run-at.ensures.0, c.run_length.ensures))

pub returns : goal.returns
returns c =
    write_done c.args.shape c.rectangle-rectangle.result c.requires.bounded_shape c.rectangle-rectangle.ensures c.loop-dy.invariant
    (points_after_all _ _ _ _ c.loop-dy-test.false)
