-- `corner_radii::CornerRadii::edges` meets its contract: the sums are those of the definition, and within the bounds.
use mathlib.Core.Path.{refl}
use borrow.Author.Rules.{rules}
use Rattle.corner_radii.proofs.CornerRadii.edges.Goals as goal

pub returns : goal.returns
returns c = record { value = refl; bounded_edges = search rules }
