-- `host_sheet_place::rows_above` meets its contract: by whether the figure has a height.
use native.Mathlib.Omega.{arith}
use borrow.Author.Tests.{eq-eqb, ne_eqb}
use Rattle.host_sheet_place.proofs.rows_above.Goals as goal

pub returns-then-outside-eq0 : goal.returns-then-outside-eq0
returns-then-outside-eq0 c = rw (eq-eqb _ 0 c.if-height-eq0.true) (omega arith)

pub returns-else-outside-eq0 : goal.returns-else-outside-eq0
returns-else-outside-eq0 c = rw (eq-eqb _ 0 c.if-height-eq0.true) (omega arith)

pub returns : goal.returns
returns c = rw (ne_eqb _ 0 c.if-height-eq0.false)
