-- `signed::magnitude` meets its contract: −(v + 1) fits where v is negative, at the smallest i32 too, and one more is −v.
use native.Mathlib.Omega.{arith}
use Rattle.signed.proofs.Laws.{int, range, magnitude_law}
use Rattle.signed.proofs.magnitude.Goals as goal

-- v + 1, its opposite, and the cast
pub overflow_add-result : goal.overflow_add-result
overflow_add-result c = omega (arith, int, range c.ranges.v)

pub overflow_sub-result : goal.overflow_sub-result
overflow_sub-result c =
    let next = overflow_add-result c in
    omega (arith, int, range c.ranges.v)

pub overflow_cast-result : goal.overflow_cast-result
overflow_cast-result c =
    let next = overflow_add-result c in
    let opposite = overflow_sub-result c in
    omega (arith, int)

pub overflow_add-result-then-v-lt0 : goal.overflow_add-result-then-v-lt0
overflow_add-result-then-v-lt0 c =
    let next = overflow_add-result c in
    let opposite = overflow_sub-result c in
    let cast = overflow_cast-result c in
    omega (arith, int, range c.ranges.v)

pub overflow_cast-result-else-v-lt0 : goal.overflow_cast-result-else-v-lt0
overflow_cast-result-else-v-lt0 c = omega (arith, int)

-- negative
pub returns-then-v-lt0 : goal.returns-then-v-lt0
returns-then-v-lt0 c =
    let next = overflow_add-result c in
    let opposite = overflow_sub-result c in
    let cast = overflow_cast-result c in
    omega (arith, int, magnitude_law c.args.v)

-- not negative
pub returns-else-v-lt0 : goal.returns-else-v-lt0
returns-else-v-lt0 c =
    let cast = overflow_cast-result-else-v-lt0 c in
    omega (arith, int, magnitude_law c.args.v)
