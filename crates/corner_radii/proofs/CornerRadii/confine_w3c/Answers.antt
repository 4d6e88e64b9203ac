-- `corner_radii::CornerRadii::confine_w3c` meets its contract: the callees' equations chain to the rule by the tightest
-- edge, and that edge overlaps where some edge does.
use mathlib.Core.Path.{sym, ap, ◌∙◌}
use Rattle.corner.specs.declared.edge.Edge.{Edge}
use Rattle.corner.specs.Edge.{tightest}
use Rattle.corner_radii.specs.CornerRadii.{reduced}
use Rattle.corner_radii.proofs.Rules.{w3c_by_tightest}
use Rattle.corner_radii.proofs.CornerRadii.confine_w3c.Goals as goal

pub returns : goal.returns
returns c =
    c.reduce.ensures
    ∙ ap (λ (e : Edge). reduced e c.args.self)
    (c.tightest-edge.ensures.value ∙ ap tightest c.edges.ensures.value)
    ∙ sym (w3c_by_tightest c.args.self c.args.size)
