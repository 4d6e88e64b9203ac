-- `corner_radii::CornerRadii::confine` meets its contract: the callees' equations chain to the definition.
use mathlib.Core.Path.{ap, ◌∙◌}
use Rattle.corner.specs.declared.edge.Edge.{Edge}
use Rattle.corner.specs.Edge.{most_over}
use Rattle.corner_radii.specs.CornerRadii.{reduced, confine}
use Rattle.corner_radii.proofs.CornerRadii.confine.Goals as goal

pub returns : goal.returns
unfolding confine
returns c =
    c.reduce.ensures
    ∙ ap (λ (e : Edge). reduced e c.args.self)
    (c.most_over-edge.ensures.value ∙ ap most_over c.edges.ensures.value)
