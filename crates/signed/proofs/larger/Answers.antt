-- `signed::larger` meets its contract: the test is the definition's own.
use native.Mathlib.Omega.{arith}
use Rattle.signed.proofs.Laws.{int}
use Rattle.signed.proofs.larger.Goals as goal

pub returns-then-a-b : goal.returns-then-a-b
returns-then-a-b c = omega (arith, int)

pub returns-else-a-b : goal.returns-else-a-b
returns-else-a-b c = omega (arith, int)
