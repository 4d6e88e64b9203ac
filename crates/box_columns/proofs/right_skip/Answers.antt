-- `box_columns::right_skip` meets its contract: the columns are left out by the first corner of `contains_at` that has them
-- (`top_right_skips`, `bottom_right_skips`).
use Rattle.rounded_rectangle.specs.Relative.{radii}
use Rattle.box_columns.proofs.Skips.{top_right_skips, bottom_right_skips}
use native.Mathlib.Omega.{arith}
use Rattle.box_columns.proofs.right_skip.Goals as goal

-- by the top-right corner
pub returns-then-by_top_right-gt0 : goal.returns-then-by_top_right-gt0
returns-then-by_top_right-gt0 c =
    let entry = c.args in
    top_right_skips (radii entry.b) entry.b.size entry.dy _ _ (omega arith) (omega arith) c.left_out.ensures

-- by the bottom-right corner
pub returns : goal.returns
returns c =
    let a = c.args in
    let entry = a in
    bottom_right_skips (radii entry.b) entry.b.size entry.dy _ _ (omega arith) (omega arith) (omega arith)
    c.left_out-2.ensures
