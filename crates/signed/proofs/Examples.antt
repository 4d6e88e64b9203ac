-- What `omega (arith, int)` closes by itself, a form to an example; where it does not, the example lists the law to add.
-- Assumes nothing.
use mathlib.Core.Path.{◌≡◌}
use mathlib.Core.Bool.{true, false}
use Prim.Native.Nat.{ℕ, ◌<◌}
use native.Mathlib.Omega.{arith}
use lib.Dec.{T}
use lib.IntN.{ℤ, pos, negsuc, nat_abs, ◌+ℤ◌, ◌-ℤ◌, ◌*ℤ◌}
use lib.Signed.{lt_z, le_z, non_neg, ◌≤ℤ◌, ◌<ℤ◌}
use mir.Syntax.{Width, w8, w32, w64}
use mir.Val.{SFits, Fits, to_z, of_z}
use Rattle.signed.specs.Signed.{positive_part, floor0, larger, Near}
use Rattle.signed.proofs.Laws.{int, add_law, times_law, one_part_zero, range}

-- a test turned round; two orders chained
less_is_not_more : (a b : ℤ) → lt_z a b ≡ true → lt_z b a ≡ false
less_is_not_more a b h = omega (arith, int)

orders_chain : (a b c : ℤ) → a <ℤ b → b ≤ℤ c → a <ℤ c
orders_chain a b c h k = omega (arith, int)

-- a sum inside a test is an unknown: list its law
shifted_test : (a b c : ℤ) → lt_z a b ≡ true → le_z b c ≡ true → lt_z (a +ℤ pos 3) (c +ℤ pos 3) ≡ true
shifted_test a b c h k = omega (arith, int, add_law a (pos 3), add_law c (pos 3))

-- equations: the side that is no plain number is listed
sums_commute : (a b : ℤ) → a +ℤ b ≡ b +ℤ a
sums_commute a b = omega (arith, int, add_law a b)

sum_undone : (a b c : ℤ) → c ≡ a +ℤ b → a ≡ c -ℤ b
sum_undone a b c h = omega (arith, int)

double_is_sum : (a b : ℤ) → b ≡ pos 2 *ℤ a → b ≡ a +ℤ a
double_is_sum a b h = omega (arith, int, times_law 2 a)

-- the larger and the smaller of two
between : (z a b : ℤ) → z ≡ larger a b → a ≤ℤ z
between z a b h = omega (arith, int)

-- what the machine reads back, at any width
test_of_bits : (w : Width) (a b : ℤ) → SFits w a → SFits w b → lt_z (to_z w (of_z w a)) (to_z w (of_z w b)) ≡ true → lt_z a b ≡ true
test_of_bits w a b fa fb h = omega (arith, int)

-- ranges: at i32, at i64, and by the range of the type itself at i8
fits_i32 : (a : ℤ) → lt_z a (pos 40000) ≡ true → le_z (negsuc 40000) a ≡ true → SFits w32 (a -ℤ pos 500)
fits_i32 a h k = omega (arith, int)

fits_i64 : (a b : ℤ) → SFits w32 a → SFits w32 b → SFits w64 (a +ℤ b)
fits_i64 a b fa fb = omega (arith, int, range fa, range fb)

fits_i8 : (a : ℤ) → SFits w8 a → lt_z a (pos 0) ≡ true → SFits w8 (a +ℤ pos 1)
fits_i8 a fa h = omega (arith, int, range fa)

fits_of_bits : (a : ℤ) (n : ℕ) → Near 40000 a → SFits w32 (pos n) → n < 500 → SFits w32 (to_z w32 (of_z w32 a) -ℤ to_z w32 n)
fits_of_bits a n na fn h = omega (arith, int)

near_difference : (a b : ℤ) → Near 40000 a → Near 40000 b → Near 80000 (a -ℤ b)
near_difference a b h k = omega (arith, int)

near_unsigned : (n : ℕ) → n < 500 → Near 500 (pos n)
near_unsigned n h = omega (arith, int)

-- casts to an unsigned type
cast_of_near : (a : ℤ) → Near 40000 a → le_z (pos 0) a ≡ true → T (non_neg a) × Fits w32 (nat_abs a)
cast_of_near a h k = omega (arith, int)

cast_value : (a : ℤ) → T (non_neg a) → nat_abs a ≡ floor0 a
cast_value a t = omega (arith, int)

-- a claim of one part alone needs that one of the two is 0
cast_part : (a : ℤ) → T (non_neg a) → nat_abs a ≡ positive_part a
cast_part a t = omega (arith, int, one_part_zero a)
