-- `signed::floor0` meets its contract: the test says which part of v is 0.
use native.Mathlib.Omega.{arith}
use Rattle.signed.proofs.Laws.{int}
use Rattle.signed.proofs.floor0.Goals as goal

pub overflow_cast-result : goal.overflow_cast-result
overflow_cast-result c = omega (arith, int)

pub returns-then-v-lt0 : goal.returns-then-v-lt0
returns-then-v-lt0 c = omega (arith, int)

pub returns-else-v-lt0 : goal.returns-else-v-lt0
returns-else-v-lt0 c =
    let cast = overflow_cast-result c in
    omega (arith, int)
