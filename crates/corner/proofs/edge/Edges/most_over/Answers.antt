-- `corner::edge::Edges::most_over` meets its contract: the three choices, chained, are `most_over`.
use mathlib.Core.Path.{refl, ap₂, ◌∙◌}
use Rattle.corner.specs.Edge.{further_over}
use Rattle.corner.proofs.edge.Edges.most_over.Goals as goal

pub returns : goal.returns
returns c =
    let two = c.further_over-upper.ensures.value in
    let three = c.further_over.ensures.value ∙ ap₂ further_over c.further_over-upper.ensures.value refl in record { value = c.further_over-2.ensures.value ∙ ap₂ further_over three refl; bounded_edge = c.further_over-2.ensures.bounded_edge_3 }
