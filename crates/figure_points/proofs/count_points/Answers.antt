-- `figure_points::count_points` meets its contract. The invariant: n points stand in the dy rows passed, and with those left they
-- are all (`CountLeft`).
use mathlib.Core.Path.{sym, ◌∙◌}
use Rattle.scanline.proofs.Listing.{points_after_all, points_after_empty, points_after_no_row}
use Rattle.figure_points.proofs.Listed.{row_told, run_small, own_count_start, own_count_done, count_next}
use Rattle.figure_points.proofs.count_points.Goals as goal

pub loop-dy-init : goal.loop-dy-init
loop-dy-init c = own_count_start c.args.shape c.rectangle-rectangle.result c.requires c.rectangle-rectangle.ensures

pub returns-in_default : goal.returns-in_default
returns-in_default c =
    own_count_done c.args.shape c.rectangle-rectangle.result c.requires c.rectangle-rectangle.ensures _ _ c.loop-dy.invariant
    (points_after_no_row _ _ _ _ c.loop-dy-test.true (row_told _ _ _ _ c.from_first.ensures c.row.ensures.0 ∙ c.in_default.is))

pub returns-then-is_empty : goal.returns-then-is_empty
returns-then-is_empty c =
    own_count_done c.args.shape c.rectangle-rectangle.result c.requires c.rectangle-rectangle.ensures _ _ c.loop-dy.invariant
    (points_after_empty _ _ _ _ _ c.loop-dy-test.true (row_told _ _ _ _ c.from_first.ensures c.row.ensures.0 ∙ c.in-Some.is)
    (sym c.is_empty.ensures ∙ c.if-is_empty.true))

pub loop-dy-preserved : goal.loop-dy-preserved
loop-dy-preserved c =
    count_next _ _ _ _ _ c.loop-dy.invariant c.in-Some.run' _ c.loop-dy-test.true
    (row_told _ _ _ _ c.from_first.ensures c.row.ensures.0 ∙ c.in-Some.is) (sym c.is_empty.ensures ∙ c.if-is_empty.false)
    (run_small c.args.shape c.requires _ _ c.row.ensures.1 c.in-Some.is) c.run_length-n.ensures

pub returns : goal.returns
returns c =
    own_count_done c.args.shape c.rectangle-rectangle.result c.requires c.rectangle-rectangle.ensures _ _ c.loop-dy.invariant
    (points_after_all _ _ _ _ c.loop-dy-test.false)
