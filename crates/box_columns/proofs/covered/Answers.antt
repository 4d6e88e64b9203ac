-- `box_columns::covered` meets its contract: the test on the row says which case of `covered` holds.
use borrow.Author.Tests.{lt-ltb, le-ltb}
use Rattle.box_columns.specs.Columns.{covered}
use Rattle.box_columns.proofs.covered.Goals as goal

pub returns-then-e-radius : goal.returns-then-e-radius
unfolding covered
returns-then-e-radius c = rw (lt-ltb _ _ c.if-e-radius.true)

pub returns-else-e-radius : goal.returns-else-e-radius
unfolding covered
returns-else-e-radius c = rw (le-ltb _ _ c.if-e-radius.false)
