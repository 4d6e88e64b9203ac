-- `box_columns::left_skip` meets its contract: the columns are left out by the first corner of `contains_at` that has them
-- (`top_left_skips`, `bottom_left_skips`).
use mathlib.Core.Path.{ap, ◌∙◌}
use Rattle.rounded_rectangle.specs.Relative.{radii}
use Rattle.box_columns.specs.Columns.{left_out}
use Rattle.box_columns.proofs.Skips.{top_left_skips, bottom_left_skips}
use native.Mathlib.Omega.{arith}
use Rattle.box_columns.proofs.left_skip.Goals as goal

-- by the top-left corner
pub returns-then-by_top_left-gt0 : goal.returns-then-by_top_left-gt0
returns-then-by_top_left-gt0 c =
    let entry = c.args in
    top_left_skips (radii entry.b) entry.b.size entry.dy _
    (c.left_out.ensures ∙ ap (left_out entry.b.top_left.radius entry.dy) c.covered-by_top_left.ensures)

-- by the bottom-left corner
pub returns : goal.returns
returns c =
    let entry = c.args in
    bottom_left_skips (radii entry.b) entry.b.size entry.dy _ _ (omega arith) (omega arith) (omega arith)
    c.left_out-2.ensures
