-- `ellipse_search::nearest_column` meets its contract: by whether there are columns.
use native.Mathlib.Omega.{arith}
use Rattle.ellipse_search.proofs.nearest_column.Goals as goal

pub returns-then-count-eq0 : goal.returns-then-count-eq0
returns-then-count-eq0 c = c.if-count-eq0.true

pub returns : goal.returns
returns c = (omega arith, c.least.ensures)
