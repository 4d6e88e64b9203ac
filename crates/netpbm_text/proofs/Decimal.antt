-- Laws of decimal numbers: below ten one digit; else one digit more than the tenth of the number has; and how long they are.
-- Assumes nothing.
use mathlib.Core.Path.{◌≡◌, refl, ap, ◌∙◌}
use mathlib.Core.Bool.{Bool, true, false, cond}
use mathlib.Core.List.{List, [], ◌∷◌, ◌++◌}
use Prim.Native.Nat.{ℕ, zero, suc, ◌+◌, ◌/◌, ◌%◌, ◌^◌, ◌≤◌, ◌<◌}
use native.Mathlib.Nat.{pow-suc}
use native.Mathlib.Omega.{arith}
use borrow.Author.Tests.{lt-ltb, le-ltb}
use lib.Dec.{ltb}
use lib.ListN.{length, length-append}
use Rattle.netpbm_text.specs.Decimal.{digit, decimal_up_to, decimal}

-- with leave for more than n digits, how many more does not matter
up_to_agrees : (a b n : ℕ) → n < a → n < b → decimal_up_to a n ≡ decimal_up_to b n
unfolding decimal_up_to
up_to_agrees zero b n ha hb = absurd (omega arith)
up_to_agrees (suc a) zero n ha hb = absurd (omega arith)
up_to_agrees (suc a) (suc b) zero ha hb = refl
up_to_agrees (suc a) (suc b) (suc n) ha hb = rw (up_to_agrees a b (suc n / 10) (omega arith) (omega arith))

pub decimal_below_ten : (n : ℕ) → n < 10 → decimal n ≡ digit n ∷ []
unfolding decimal decimal_up_to
decimal_below_ten n h = rw (lt-ltb n 10 h)

pub decimal_from_ten : (n : ℕ) → 10 ≤ n → decimal n ≡ decimal (n / 10) ++ (digit (n % 10) ∷ [])
unfolding decimal decimal_up_to
decimal_from_ten n h = rw (le-ltb n 10 h, up_to_agrees n (suc (n / 10)) (n / 10) (omega arith) (omega arith))

pub length_decimal_below_ten : (n : ℕ) → n < 10 → length (decimal n) ≡ 1
length_decimal_below_ten n h = ap length (decimal_below_ten n h)

pub length_decimal_from_ten : (n : ℕ) → 10 ≤ n → length (decimal n) ≡ length (decimal (n / 10)) + 1
length_decimal_from_ten n h = ap length (decimal_from_ten n h) ∙ length-append (decimal (n / 10)) (digit (n % 10) ∷ [])

-- every number has a digit
pub length_decimal_least : (n : ℕ) → 1 ≤ length (decimal n)
unfolding decimal decimal_up_to
length_decimal_least n = either_way (ltb n 10) (digit n) (digit (n % 10)) (decimal_up_to n (n / 10))
  where
    either_way : (b : Bool) (d e : ℕ) (front : List ℕ) → 1 ≤ length (cond b (d ∷ []) (front ++ (e ∷ [])))
    either_way true d e front = omega arith
    either_way false d e front = rw length-append (omega arith)

-- a number below 10 ^ (k + 1) has at most k + 1 digits
length_up_to : (most k n : ℕ) → n < 10 ^ suc k → length (decimal_up_to most n) ≤ suc k
unfolding decimal_up_to
length_up_to zero k n h = omega arith
length_up_to (suc most) zero n h = rw (lt-ltb n 10 h) (omega arith)
length_up_to (suc most) (suc k) n h =
    let tenth : n / 10 < 10 ^ suc k = omega (arith, pow-suc 10 (suc k)) in
    either_way (ltb n 10) (digit n) (digit (n % 10)) (decimal_up_to most (n / 10)) (length_up_to most k (n / 10) tenth)
  where
    either_way : (b : Bool) (d e : ℕ) (front : List ℕ) → length front ≤ suc k → length (cond b (d ∷ []) (front ++ (e ∷ []))) ≤ suc (suc k)
    either_way true d e front le = omega arith
    either_way false d e front le = rw length-append (omega arith)

pub length_decimal_most : (k n : ℕ) → n < 10 ^ suc k → length (decimal n) ≤ suc k
unfolding decimal
length_decimal_most k n h = length_up_to (suc n) k n h

-- so a number of 32 bits has at most ten
pub length_decimal_u32 : (n : ℕ) → n < 2 ^ 32 → length (decimal n) ≤ 10
length_decimal_u32 n h = length_decimal_most 9 n (omega arith)
