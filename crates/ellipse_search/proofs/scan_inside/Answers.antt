-- `ellipse_search::scan_inside` meets its contract: from an inside column to the left, and that finds what the whole search would
-- (`walk_left_finds`); both by the test of the row, formed once (`finds_on_row`).
use mathlib.Core.Path.{refl, sym, ◌∙◌}
use Rattle.ellipse_search.proofs.Search.{finds_on_row, walk_left_finds}
use native.Mathlib.Omega.{arith}
use Rattle.ellipse_search.proofs.scan_inside.Goals as goal

-- from the hint
pub returns-then-inside_left : goal.returns-then-inside_left
returns-then-inside_left c =
    let a = c.args in
    c.walk_left.ensures
    ∙ walk_left_finds c.on_row-row.result a.width a.from a.count _ refl (omega arith) a.hint (omega arith) (omega arith)
    (sym c.inside_left.ensures ∙ c.if-inside_left.true)
    ∙ finds_on_row a.test a.width a.y _ c.on_row-row.ensures.0 a.count a.from

-- by the whole search
pub returns : goal.returns
returns c =
    let a = c.args in
    sym c.in_ok-k.was ∙ c.find_on_row.ensures ∙ finds_on_row a.test a.width a.y _ c.on_row-row.ensures.0 a.count a.from

pub returns-in_err-k : goal.returns-in_err-k
returns-in_err-k c =
    let a = c.args in
    rw c.from_residual.ensures
    (sym c.in_err-k.was ∙ c.find_on_row.ensures ∙ finds_on_row a.test a.width a.y _ c.on_row-row.ensures.0 a.count a.from)
