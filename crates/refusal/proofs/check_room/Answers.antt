-- `refusal::check_room` meets its contract: the test is the definition's own.
use borrow.Author.Tests.{lt-ltb, le-ltb}
use Rattle.refusal.proofs.check_room.Goals as goal

pub returns-then-room-needed : goal.returns-then-room-needed
returns-then-room-needed c = rw (lt-ltb _ _ c.if-room-needed.true)

pub returns-else-room-needed : goal.returns-else-room-needed
returns-else-room-needed c = rw (le-ltb _ _ c.if-room-needed.false)
