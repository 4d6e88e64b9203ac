-- `corner::edge::further_over` meets its contract: the test on the overlaps says which arm of `further_over` holds.
use Rattle.corner.proofs.MostOver.{further_over_next, further_over_first}
use borrow.Author.Rules.{rules}
use native.Mathlib.Omega.{arith}
use Rattle.corner.proofs.edge.further_over.Goals as goal

pub returns-then-overlap : goal.returns-then-overlap
returns-then-overlap c = record { value = further_over_next _ _ (omega arith); bounded_edge_3 = search rules }

pub returns-else-overlap : goal.returns-else-overlap
returns-else-overlap c = record { value = further_over_first _ _ (omega arith); bounded_edge_3 = search rules }
