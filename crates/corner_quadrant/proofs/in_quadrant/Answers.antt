-- `corner_quadrant::in_quadrant` meets its contract: the tests are the definition's own.
use borrow.Author.Tests.{lt-ltb, le-ltb}
use Rattle.corner_quadrant.specs.Quadrant.{in_quadrant}
use Rattle.corner_quadrant.proofs.in_quadrant.Goals as goal

pub returns-then-e-radius : goal.returns-then-e-radius
unfolding in_quadrant
returns-then-e-radius c = rw (lt-ltb _ _ c.if-e-radius.true)

pub returns-else-e-radius : goal.returns-else-e-radius
unfolding in_quadrant
returns-else-e-radius c = rw (le-ltb _ _ c.if-e-radius.false)
