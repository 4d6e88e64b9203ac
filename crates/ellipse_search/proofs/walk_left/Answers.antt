-- `ellipse_search::walk_left` meets its contract. The invariant: k is inside; where the column before it is outside, so are all before.
use mathlib.Core.Path.{sym, ap, ◌∙◌}
use Prim.Native.Nat.{◌-◌}
use Rattle.scanline.proofs.Find.{find_at}
use Rattle.ellipse_search.specs.Row.{column_on_row}
use Rattle.ellipse_search.proofs.Search.{row_rises}
use native.Mathlib.Omega.{arith}
use Rattle.ellipse_search.proofs.walk_left.Goals as goal

pub returns-then-not-inside_left : goal.returns-then-not-inside_left
returns-then-not-inside_left c =
    let a = c.args in
    let k = c.loop-k.k - 1 in
    sym (find_at _ _ _ _ (omega arith) (omega arith)
    (λ i fi il. row_rises a.row a.width a.from a.start (omega arith) i k fi (omega arith) (omega arith)
    (sym c.inside_left.ensures ∙ c.if-not-inside_left.true))
    (ap (column_on_row a.row a.width) (omega arith) ∙ c.loop-k.invariant.1))
