-- `ellipse_search::walk_right` meets its contract. The invariant: all columns after the start and before k are outside.
use mathlib.Core.Path.{sym, ◌∙◌}
use Rattle.scanline.proofs.Find.{find_at}
use native.Mathlib.Omega.{arith}
use Rattle.ellipse_search.proofs.walk_right.Goals as goal

pub returns-then-inside_left : goal.returns-then-inside_left
returns-then-inside_left c =
    sym (find_at _ _ _ _ (omega arith) (omega arith) (λ i fi il. c.loop-k.invariant i (omega arith) il)
    (sym c.inside_left.ensures ∙ c.if-inside_left.true))
