-- `corner::edge::overlap` meets its contract: the test says whether the difference is cut off at 0.
use Rattle.corner.specs.Edge.{overlap}
use native.Mathlib.Omega.{arith}
use Rattle.corner.proofs.edge.overlap.Goals as goal

pub returns-then-edge : goal.returns-then-edge
unfolding overlap
returns-then-edge c = omega arith

pub returns-else-edge : goal.returns-else-edge
unfolding overlap
returns-else-edge c = omega arith
