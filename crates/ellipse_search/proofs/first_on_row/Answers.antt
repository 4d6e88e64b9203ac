-- `ellipse_search::first_on_row` meets its contract: between lo and hi lies the first inside column; before lo all are outside, hi is
-- inside.
use mathlib.Core.Path.{sym, ◌∙◌}
use Rattle.scanline.proofs.Find.{find_none, bracket_up, bracket_end}
use Rattle.ellipse_search.proofs.Search.{row_rises, nearest_outside}
use native.Mathlib.Omega.{arith}
use Rattle.ellipse_search.proofs.first_on_row.Goals as goal

-- there is none
pub returns-in_err-nearest : goal.returns-in_err-nearest
returns-in_err-nearest c = c.from_residual.ensures ∙ sym (find_none _ _ _ (λ i ki il. absurd (omega (arith, c.in_err-nearest.ensures))))

-- the nearest column is outside
pub returns-then-not-inside_left : goal.returns-then-not-inside_left
returns-then-not-inside_left c =
    let near = c.in_ok-nearest.ensures in
    sym (find_none _ _ _ (nearest_outside _ _ _ _ _ near.1 near.0 (sym c.inside_left.ensures ∙ c.if-not-inside_left.true)))

pub loop-lo-preserved : goal.loop-lo-preserved
loop-lo-preserved c =
    let near = c.in_ok-nearest.ensures in
    bracket_up c.loop-lo.invariant _ (row_rises _ _ _ _ (omega arith)) (omega arith) (omega arith)
    (sym c.inside_left-in-loop-lo.ensures ∙ c.if-inside_left.false)

pub returns : goal.returns
returns c =
    let near = c.in_ok-nearest.ensures in
    sym (bracket_end c.loop-lo.invariant _ (omega arith) c.loop-lo-test.false)
