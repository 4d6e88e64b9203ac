-- `corner::edge::Edges::tightest` meets its contract: the three choices, chained, are `Corner.tightest`.
use mathlib.Core.Path.{refl, ap₂, ◌∙◌}
use Rattle.corner.specs.Edge.{tighter}
use Rattle.corner.proofs.edge.Edges.tightest.Goals as goal

pub returns : goal.returns
returns c =
    let two = c.tighter-upper.ensures.value in
    let three = c.tighter.ensures.value ∙ ap₂ tighter c.tighter-upper.ensures.value refl in record { value = c.tighter-2.ensures.value ∙ ap₂ tighter three refl; bounded_edge = c.tighter-2.ensures.bounded_edge_3 }
