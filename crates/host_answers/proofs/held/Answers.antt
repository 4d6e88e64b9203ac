-- `host_answers::held` meets its contract: below 2^31 the number itself, from there on less 2^32, in steps that 32 bits hold.
use mathlib.Core.Path.{◌≡◌}
use mathlib.Core.Bool.{true, false}
use Prim.Native.Nat.{ℕ, suc, ◌<◌, ◌≤◌}
use lib.IntN.{pos, ◌-ℤ◌}
use lib.Signed.{lt_z}
use Rattle.signed.specs.Signed.{max_i32}
use Rattle.signed.proofs.Laws.{sub_law}
use Rattle.host_answers.specs.HostAnswers.{held_by32}
use native.Mathlib.Omega.{arith}
use Rattle.signed.proofs.Laws.{int}
use Rattle.host_answers.proofs.held.Goals as goal

-- the two cases of the definition
below : (n : ℕ) → n < suc max_i32 → held_by32 (pos n) ≡ pos n
unfolding held_by32
below n small =
    let test : lt_z (pos n) (pos (suc max_i32)) ≡ true = omega (arith, int) in
    rw test

from : (n : ℕ) → suc max_i32 ≤ n → held_by32 (pos n) ≡ pos n -ℤ pos 4294967296
unfolding held_by32
from n large =
    let test : lt_z (pos n) (pos (suc max_i32)) ≡ false = omega (arith, int) in
    rw test

pub returns-then-n-lt-PAST_MAX : goal.returns-then-n-lt-PAST_MAX
returns-then-n-lt-PAST_MAX c = rw (below c.args.n c.if-n-lt-PAST_MAX.true) (omega (arith, int))

pub sub-requires : goal.sub-requires
sub-requires c = omega (arith, int)

pub sub-requires-2 : goal.sub-requires-2
sub-requires-2 c = omega (arith, int)

pub returns : goal.returns
returns c =
    let n = c.args.n in
    let large = c.if-n-lt-PAST_MAX.false in
    rw (from n c.if-n-lt-PAST_MAX.false) (omega (arith, int, sub_law (pos n) (pos 4294967296)))
