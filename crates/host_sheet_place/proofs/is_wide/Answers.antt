-- `host_sheet_place::is_wide` meets its contract: by whether there is a height.
use native.Mathlib.Omega.{arith}
use borrow.Author.Tests.{lt-ltb, le-ltb}
use Rattle.host_sheet_place.proofs.is_wide.Goals as goal

pub returns-then-height-eq0 : goal.returns-then-height-eq0
returns-then-height-eq0 c = rw (le-ltb 0 c.args.height (omega arith))

pub returns : goal.returns
returns c = rw (lt-ltb 0 c.args.height (omega arith))
