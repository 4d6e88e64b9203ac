-- `ellipse_search::next_on_row` meets its contract: from an inside column to the left, from an outside one to the right, and both find
-- what the whole search would (`walk_left_finds`, `walk_right_finds`).
use mathlib.Core.Path.{sym, ◌∙◌}
use Rattle.ellipse_search.proofs.Search.{walk_left_finds}
use native.Mathlib.Omega.{arith}
use Rattle.ellipse_search.proofs.next_on_row.Goals as goal

pub returns-then-inside_left : goal.returns-then-inside_left
returns-then-inside_left c =
    let near = c.in_ok-nearest.ensures in
    let a = c.args in
    c.walk_left.ensures
    ∙ walk_left_finds a.row a.width a.from a.count _ near.1 near.0 _ (omega arith) (omega arith) (sym c.inside_left.ensures ∙ c.if-inside_left.true)
