-- `refusal::refuse_above` meets its contract: the test is the definition's own.
use borrow.Author.Tests.{lt-ltb, le-ltb}
use Rattle.refusal.proofs.refuse_above.Goals as goal

pub returns-then-limit-value : goal.returns-then-limit-value
returns-then-limit-value c = rw (lt-ltb _ _ c.if-limit-value.true)

pub returns-else-limit-value : goal.returns-else-limit-value
returns-else-limit-value c = rw (le-ltb _ _ c.if-limit-value.false)
