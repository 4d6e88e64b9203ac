-- Signed numbers for `omega`, which reads ℕ alone. A ℤ is read by two naturals, its positive part P z and its negative part N z.
-- Every law speaks of the difference of the two alone, so each is linear, holds of every ℤ, and survives what the machine reads
-- back. The ruleset `int` at the end makes `omega` apply the laws by itself: `omega (arith, int)`.
--     hypotheses that it then reads     a test `lt_z a b ≡ true`, `le_z a b ≡ false`, ..; `a <ℤ b`, `a ≤ℤ b`; an equation `z ≡ a +ℤ b`,
--                                       `z ≡ a -ℤ b`, `z ≡ a`; `SFits w z`, and by it `to_z w (of_z w z)`; `T (non_neg z)`, and by it `nat_abs z`
--     goals that it then proves         the same tests, orders and equations; `SFits w z` and `Near n z`, at a sum and a difference
--                                       too; what a cast asks, `T (non_neg z)` and `Fits w (nat_abs z)`
-- A rule is applied where exactly one of its last argument and its result is a statement on ℕ: the first of the set that fits, and
-- none to what a rule has made. So a difference stands before a sum, and a sum before a plain number.
-- Assumes nothing.
use mathlib.Core.Path.{◌≡◌, refl, sym, ap, subst}
use mathlib.Core.Bool.{Bool, true, false, not, cond}
use Prim.Native.Nat.{ℕ, zero, suc, ◌+◌, ◌-◌, ◌*◌, ◌/◌, ◌^◌, ◌≤◌, ◌<◌, min, max}
use native.Mathlib.Omega.{arith}
use native.Mathlib.Nat.{div-le_self}
use borrow.Author.Tests.{ltb-true, ltb-false, leb-true, leb-false, lt-ltb, le-ltb, le-leb, lt-leb}
use lib.Dec.{T, ltb, ltb→lt, nltb→le}
use lib.IntN.{ℤ, pos, negsuc, neg_ℤ, sub_ℕ, nat_abs, ◌+ℤ◌, ◌-ℤ◌, ◌*ℤ◌, *ℤ_comm}
use lib.Signed.{quot_z, mag, lt_z, le_z, non_neg, ◌≤ℤ◌, ◌<ℤ◌}
use lib.Pow.{pow_pos}
use mir.Syntax.{Width, w32, w64}
use mir.Val.{SFits, Fits, to_z, of_z, hbits, bits, sel}
use mir.ValLaws.{pow-bits}
use mir.Facts.{to_z-of_z}
use Rattle.signed.specs.Signed.{positive_part as P, negative_part as N, larger, smaller, max_i32, Near}

-- one of the two parts is 0: the one law that the ruleset does not have, for a claim of a part by itself
pub one_part_zero : (z : ℤ) → min (P z) (N z) ≡ 0
one_part_zero (pos n) = omega arith
one_part_zero (negsuc n) = omega arith

pub magnitude_law : (z : ℤ) → nat_abs z ≡ (P z - N z) + (N z - P z)
magnitude_law (pos n) = omega arith
magnitude_law (negsuc n) = omega arith

-- ---- sum, opposite, difference
subℕ_law : (a b : ℕ) → P (sub_ℕ a b) + b ≡ a + N (sub_ℕ a b)
subℕ_law a b = by_order (ltb a b) (λ t. ltb→lt a b t) (λ t. nltb→le a b t)
  where
    by_order : (t : Bool) → (T t → a < b) → (T (not t) → b ≤ a)
        → P (cond t (negsuc (b - suc a)) (pos (a - b))) + b ≡ a + N (cond t (negsuc (b - suc a)) (pos (a - b)))
    by_order true f g = let h = f tt in omega arith
    by_order false f g = let h = g tt in omega arith

pub add_law : (a b : ℤ) → P (a +ℤ b) + (N a + N b) ≡ P a + P b + N (a +ℤ b)
add_law (pos a) (pos b) = omega arith
add_law (pos a) (negsuc b) = omega (arith, subℕ_law a (suc b))
add_law (negsuc a) (pos b) = omega (arith, subℕ_law b (suc a))
add_law (negsuc a) (negsuc b) = omega arith

pub positive_of_opposite : (z : ℤ) → P (neg_ℤ z) ≡ N z
positive_of_opposite (pos zero) = refl
positive_of_opposite (pos (suc n)) = refl
positive_of_opposite (negsuc n) = omega arith

pub negative_of_opposite : (z : ℤ) → N (neg_ℤ z) ≡ P z
negative_of_opposite (pos zero) = refl
negative_of_opposite (pos (suc n)) = omega arith
negative_of_opposite (negsuc n) = refl

pub sub_law : (a b : ℤ) → P (a -ℤ b) + (N a + P b) ≡ P a + N b + N (a -ℤ b)
sub_law a b = omega (arith, add_law a (neg_ℤ b), positive_of_opposite b, negative_of_opposite b)

-- ---- a product with a number that is not negative, on either side
pub mul_law : (a : ℤ) (n : ℕ) → P (a *ℤ pos n) + n * N a ≡ n * P a + N (a *ℤ pos n)
mul_law (pos a) n = omega arith
mul_law (negsuc a) zero = omega (arith, positive_of_opposite (pos (suc a * zero)), negative_of_opposite (pos (suc a * zero)))
mul_law (negsuc a) (suc n) =
    omega (arith, positive_of_opposite (pos (suc a * suc n)), negative_of_opposite (pos (suc a * suc n)))

pub times_law : (n : ℕ) (a : ℤ) → P (pos n *ℤ a) + n * N a ≡ n * P a + N (pos n *ℤ a)
times_law n a = rw (*ℤ_comm (pos n) a) (mul_law a n)

-- ---- tests, read
false_is_not_true : {X : Type 0} → false ≡ true → X
false_is_not_true e = absurd (subst T (sym e) tt)

true_is_not_false : {X : Type 0} → true ≡ false → X
true_is_not_false e = absurd (subst T e tt)

pub lt_z_true : (a b : ℤ) → lt_z a b ≡ true → P a + N b < P b + N a
lt_z_true (pos a) (pos b) e = omega (arith, ltb-true a b e)
lt_z_true (pos a) (negsuc b) e = false_is_not_true e
lt_z_true (negsuc a) (pos b) e = omega arith
lt_z_true (negsuc a) (negsuc b) e = omega (arith, ltb-true b a e)

pub lt_z_false : (a b : ℤ) → lt_z a b ≡ false → P b + N a ≤ P a + N b
lt_z_false (pos a) (pos b) e = omega (arith, ltb-false a b e)
lt_z_false (pos a) (negsuc b) e = omega arith
lt_z_false (negsuc a) (pos b) e = true_is_not_false e
lt_z_false (negsuc a) (negsuc b) e = omega (arith, ltb-false b a e)

pub le_z_true : (a b : ℤ) → le_z a b ≡ true → P a + N b ≤ P b + N a
le_z_true (pos a) (pos b) e = omega (arith, leb-true a b e)
le_z_true (pos a) (negsuc b) e = false_is_not_true e
le_z_true (negsuc a) (pos b) e = omega arith
le_z_true (negsuc a) (negsuc b) e = omega (arith, leb-true b a e)

pub le_z_false : (a b : ℤ) → le_z a b ≡ false → P b + N a < P a + N b
le_z_false (pos a) (pos b) e = omega (arith, leb-false a b e)
le_z_false (pos a) (negsuc b) e = omega arith
le_z_false (negsuc a) (pos b) e = true_is_not_false e
le_z_false (negsuc a) (negsuc b) e = omega (arith, leb-false b a e)

-- two tests that hold together are one
pub tests_agree : {a b : Bool} → (a ≡ true → b ≡ true) → (a ≡ false → b ≡ false) → a ≡ b
tests_agree {a = true} f g = sym (f refl)
tests_agree {a = false} f g = sym (g refl)

-- ---- tests, proved
is_true : (t : Bool) → (t ≡ false → ⊥) → t ≡ true
is_true true h = refl
is_true false h = absurd (h refl)

is_false : (t : Bool) → (t ≡ true → ⊥) → t ≡ false
is_false true h = absurd (h refl)
is_false false h = refl

pub lt_lt_z : (a b : ℤ) → P a + N b < P b + N a → lt_z a b ≡ true
lt_lt_z a b h = is_true (lt_z a b) (λ e. omega (arith, lt_z_false a b e))

pub le_lt_z : (a b : ℤ) → P b + N a ≤ P a + N b → lt_z a b ≡ false
le_lt_z a b h = is_false (lt_z a b) (λ e. omega (arith, lt_z_true a b e))

pub le_le_z : (a b : ℤ) → P a + N b ≤ P b + N a → le_z a b ≡ true
le_le_z a b h = is_true (le_z a b) (λ e. omega (arith, le_z_false a b e))

pub lt_le_z : (a b : ℤ) → P b + N a < P a + N b → le_z a b ≡ false
lt_le_z a b h = is_false (le_z a b) (λ e. omega (arith, le_z_true a b e))

-- ---- orders
truth_is_true : (t : Bool) → T t → t ≡ true
truth_is_true true h = refl
truth_is_true false h = absurd h

pub lt_read : (a b : ℤ) → a <ℤ b → P a + N b < P b + N a
lt_read a b h = lt_z_true a b (truth_is_true (lt_z a b) h.lt)

pub le_read : (a b : ℤ) → a ≤ℤ b → P a + N b ≤ P b + N a
le_read a b h = le_z_true a b (truth_is_true (le_z a b) h.le)

pub lt_proved : (a b : ℤ) → P a + N b < P b + N a → a <ℤ b
lt_proved a b h = record { lt = subst T (sym (lt_lt_z a b h)) tt }

pub le_proved : (a b : ℤ) → P a + N b ≤ P b + N a → a ≤ℤ b
le_proved a b h = record { le = subst T (sym (le_le_z a b h)) tt }

-- ---- equations
pub eq_read : (a b : ℤ) → a ≡ b → P a + N b ≡ P b + N a
eq_read a b e = subst (λ (z : ℤ). P a + N z ≡ P z + N a) e refl

pub eq_proved : (a b : ℤ) → P a + N b ≡ P b + N a → a ≡ b
eq_proved (pos a) (pos b) h = ap pos (omega arith)
eq_proved (pos a) (negsuc b) h = absurd (omega arith)
eq_proved (negsuc a) (pos b) h = absurd (omega arith)
eq_proved (negsuc a) (negsuc b) h = ap negsuc (omega arith)

pub add_read : (z a b : ℤ) → z ≡ a +ℤ b → P z + (N a + N b) ≡ P a + P b + N z
add_read z a b e = omega (arith, eq_read z (a +ℤ b) e, add_law a b)

pub sub_read : (z a b : ℤ) → z ≡ a -ℤ b → P z + (N a + P b) ≡ P a + N b + N z
sub_read z a b e = omega (arith, eq_read z (a -ℤ b) e, sub_law a b)

pub mul_read : (z a : ℤ) (n : ℕ) → z ≡ a *ℤ pos n → P z + n * N a ≡ n * P a + N z
mul_read z a n e = omega (arith, eq_read z (a *ℤ pos n) e, mul_law a n)

pub add_proved : (z a b : ℤ) → P z + (N a + N b) ≡ P a + P b + N z → z ≡ a +ℤ b
add_proved z a b h = eq_proved z (a +ℤ b) (omega (arith, add_law a b))

pub sub_proved : (z a b : ℤ) → P z + (N a + P b) ≡ P a + N b + N z → z ≡ a -ℤ b
sub_proved z a b h = eq_proved z (a -ℤ b) (omega (arith, sub_law a b))

pub mul_proved : (z a : ℤ) (n : ℕ) → P z + n * N a ≡ n * P a + N z → z ≡ a *ℤ pos n
mul_proved z a n h = eq_proved z (a *ℤ pos n) (omega (arith, mul_law a n))

-- ---- the larger and the smaller of two
pub larger_law : (a b : ℤ) → P (larger a b) + (N a + N b) ≡ max (P a + N b) (P b + N a) + N (larger a b)
unfolding larger
larger_law a b = by_test (lt_z a b) (lt_z_true a b) (lt_z_false a b)
  where
    by_test : (t : Bool) → (t ≡ true → P a + N b < P b + N a) → (t ≡ false → P b + N a ≤ P a + N b)
        → P (cond t b a) + (N a + N b) ≡ max (P a + N b) (P b + N a) + N (cond t b a)
    by_test true f g = omega (arith, f refl)
    by_test false f g = omega (arith, g refl)

pub smaller_law : (a b : ℤ) → P (smaller a b) + (N a + N b) ≡ min (P a + N b) (P b + N a) + N (smaller a b)
unfolding smaller
smaller_law a b = by_test (lt_z a b) (lt_z_true a b) (lt_z_false a b)
  where
    by_test : (t : Bool) → (t ≡ true → P a + N b < P b + N a) → (t ≡ false → P b + N a ≤ P a + N b)
        → P (cond t a b) + (N a + N b) ≡ min (P a + N b) (P b + N a) + N (cond t a b)
    by_test true f g = omega (arith, f refl)
    by_test false f g = omega (arith, g refl)

pub larger_read : (z a b : ℤ) → z ≡ larger a b → P z + (N a + N b) ≡ max (P a + N b) (P b + N a) + N z
larger_read z a b e = omega (arith, eq_read z (larger a b) e, larger_law a b)

pub smaller_read : (z a b : ℤ) → z ≡ smaller a b → P z + (N a + N b) ≡ min (P a + N b) (P b + N a) + N z
smaller_read z a b e = omega (arith, eq_read z (smaller a b) e, smaller_law a b)

pub larger_proved : (z a b : ℤ) → P z + (N a + N b) ≡ max (P a + N b) (P b + N a) + N z → z ≡ larger a b
larger_proved z a b h = eq_proved z (larger a b) (omega (arith, larger_law a b))

pub smaller_proved : (z a b : ℤ) → P z + (N a + N b) ≡ min (P a + N b) (P b + N a) + N z → z ≡ smaller a b
smaller_proved z a b h = eq_proved z (smaller a b) (omega (arith, smaller_law a b))

-- ---- the range of a signed type. `max` makes one statement of the two bounds
pub fits_by_parts : (w : Width) (z : ℤ) → max (2 * P z + 1) (2 * N z) ≤ P z + N z + 2 ^ hbits w → SFits w z
fits_by_parts w (pos n) h = record { sfits = omega arith }
fits_by_parts w (negsuc n) h = record { sfits = omega arith }

-- by the bounds, or by `mag z < 2 ^ hbits w`, which a need has of a struct's field and of a call's result
pub fits_proved : (w : Width) (z : ℤ)
    → min (mag z + 1 + (P z + N z)) (max (2 * P z + 1) (2 * N z)) ≤ P z + N z + 2 ^ hbits w → SFits w z
fits_proved w (pos n) h = record { sfits = omega arith }
fits_proved w (negsuc n) h = record { sfits = omega arith }

pub fits_add : (w : Width) (a b : ℤ)
    → max (2 * (P a + P b) + 1) (2 * (N a + N b)) ≤ P a + P b + (N a + N b) + 2 ^ hbits w → SFits w (a +ℤ b)
fits_add w a b h = fits_by_parts w (a +ℤ b) (omega (arith, add_law a b))

pub fits_sub : (w : Width) (a b : ℤ)
    → max (2 * (P a + N b) + 1) (2 * (N a + P b)) ≤ P a + N b + (N a + P b) + 2 ^ hbits w → SFits w (a -ℤ b)
fits_sub w a b h = fits_by_parts w (a -ℤ b) (omega (arith, sub_law a b))

pub fits_mul : (w : Width) (a : ℤ) (n : ℕ)
    → max (2 * (n * P a) + 1) (2 * (n * N a)) ≤ n * P a + n * N a + 2 ^ hbits w → SFits w (a *ℤ pos n)
fits_mul w a n h = fits_by_parts w (a *ℤ pos n) (omega (arith, mul_law a n))

-- a quotient by a literal and a shift to the right are no larger than the dividend
pub fits_div : (w : Width) (a : ℤ) (n : ℕ) → max (2 * P a + 1) (2 * N a) ≤ P a + N a + 2 ^ hbits w → SFits w (quot_z a (pos n))
fits_div w (pos a) n h = fits_by_parts w (pos (a / n)) (omega (arith, div-le_self a n))
fits_div w (negsuc a) n h =
    fits_by_parts w (neg_ℤ (pos (suc a / n)))
    (omega (arith, positive_of_opposite (pos (suc a / n)), negative_of_opposite (pos (suc a / n)), div-le_self (suc a) n))

-- the two bounds of a type's own range: listed with its argument, `omega (arith, int, range c.fits.x)`
pub range : {w : Width} {z : ℤ} → SFits w z → (P z < N z + 2 ^ hbits w) × (N z ≤ P z + 2 ^ hbits w)
range {z = pos n} f = let k = f.sfits in (omega arith, omega arith)
range {z = negsuc n} f = let k = f.sfits in (omega arith, omega arith)

-- ---- what the machine reads back from the bits of a number, of a sum, of a difference, of a product
pub read_back : (w : Width) (z : ℤ) → SFits w z → P (to_z w (of_z w z)) + N z ≡ P z + N (to_z w (of_z w z))
read_back w z h = eq_read (to_z w (of_z w z)) z (to_z-of_z h)

pub read_back_add : (w : Width) (a b : ℤ) → SFits w (a +ℤ b)
    → P (to_z w (of_z w (a +ℤ b))) + (N a + N b) ≡ P a + P b + N (to_z w (of_z w (a +ℤ b)))
read_back_add w a b h = omega (arith, add_law a b, read_back w (a +ℤ b) h)

pub read_back_sub : (w : Width) (a b : ℤ) → SFits w (a -ℤ b)
    → P (to_z w (of_z w (a -ℤ b))) + (N a + P b) ≡ P a + N b + N (to_z w (of_z w (a -ℤ b)))
read_back_sub w a b h = omega (arith, sub_law a b, read_back w (a -ℤ b) h)

pub read_back_mul : (w : Width) (a : ℤ) (n : ℕ) → SFits w (a *ℤ pos n)
    → P (to_z w (of_z w (a *ℤ pos n))) + n * N a ≡ n * P a + N (to_z w (of_z w (a *ℤ pos n)))
read_back_mul w a n h = omega (arith, mul_law a n, read_back w (a *ℤ pos n) h)

-- what the machine reads from any bits is within the range of the type: `omega (arith, int, toZ-range w32 BITS)`
pub to_z_range : (w : Width) (n : ℕ) → (P (to_z w n) < 2 ^ hbits w) × (N (to_z w n) ≤ 2 ^ hbits w)
to_z_range w n = by_half (ltb n (2 ^ hbits w)) (ltb→lt n (2 ^ hbits w)) (nltb→le n (2 ^ hbits w))
  where
    by_half : (t : Bool) → (T t → n < 2 ^ hbits w) → (T (not t) → 2 ^ hbits w ≤ n)
        → (P (sel t (pos n) (negsuc (2 ^ bits w - suc n))) < 2 ^ hbits w)
        × (N (sel t (pos n) (negsuc (2 ^ bits w - suc n))) ≤ 2 ^ hbits w)
    by_half true f g = let h = f tt in (omega arith, omega arith)
    by_half false f g = let h = g tt in (omega (arith, pow_pos (hbits w)), omega (arith, pow-bits w, pow_pos (hbits w)))

pub fits_to_z : (w : Width) (n : ℕ) → 0 ≤ n → SFits w (to_z w n)
fits_to_z w n h = fits_by_parts w (to_z w n) (omega (arith, to_z_range w n))

-- ---- a cast of a signed number to an unsigned type
pub cast_sign : (z : ℤ) → N z ≤ P z → T (non_neg z)
cast_sign (pos n) h = tt
cast_sign (negsuc n) h = absurd (omega arith)

pub cast_fits : (w : Width) (z : ℤ) → max (2 * P z) (2 * N z) < P z + N z + 2 ^ bits w → Fits w (nat_abs z)
cast_fits w (pos n) h = record { fits = omega arith }
cast_fits w (negsuc n) h = record { fits = omega arith }

-- to the unsigned type of the same width, and from an i32 to a usize or a u64
pub cast_same : (w : Width) (n : ℕ) → N (to_z w n) ≤ P (to_z w n) → Fits w (nat_abs (to_z w n))
cast_same w n h = cast_fits w (to_z w n) (omega (arith, to_z_range w n, one_part_zero (to_z w n), pow-bits w))

pub cast_32_64 : (n : ℕ) → N (to_z w32 n) ≤ P (to_z w32 n) → Fits w64 (nat_abs (to_z w32 n))
cast_32_64 n h = cast_fits w64 (to_z w32 n) (omega (arith, to_z_range w32 n, one_part_zero (to_z w32 n)))

pub cast_read : (z : ℤ) → T (non_neg z) → nat_abs z + N z ≡ P z
cast_read (pos n) t = omega arith
cast_read (negsuc n) t = absurd t

-- ---- a coordinate's bounds, at a sum and a difference
pub near_add : (n : ℕ) (a b : ℤ)
    → max (2 * (P a + P b)) (2 * (N a + N b)) ≤ P a + P b + (N a + N b) + min n max_i32 → Near n (a +ℤ b)
near_add n a b h =
    record { above = omega (arith, add_law a b); below = omega (arith, add_law a b); fits = fits_add w32 a b (omega arith) }

pub near_sub : (n : ℕ) (a b : ℤ)
    → max (2 * (P a + N b)) (2 * (N a + P b)) ≤ P a + N b + (N a + P b) + min n max_i32 → Near n (a -ℤ b)
near_sub n a b h =
    record { above = omega (arith, sub_law a b); below = omega (arith, sub_law a b); fits = fits_sub w32 a b (omega arith) }

-- by the magnitude
pub near_within : (n : ℕ) (z : ℤ) → nat_abs z ≤ n → n ≤ max_i32 → Near n z
near_within n z h k =
    record {
      above = omega (arith, magnitude_law z);
      below = omega (arith, magnitude_law z);
      fits = fits_by_parts w32 z (omega (arith, magnitude_law z));
    }

pub ruleset int = (
  lt_z_true,
  lt_z_false,
  le_z_true,
  le_z_false,
  lt_lt_z,
  le_lt_z,
  le_le_z,
  lt_le_z,
  lt_read,
  le_read,
  lt_proved,
  le_proved,
  sub_read,
  add_read,
  mul_read,
  larger_read,
  smaller_read,
  eq_read,
  sub_proved,
  add_proved,
  mul_proved,
  larger_proved,
  smaller_proved,
  eq_proved,
  near_sub,
  near_add,
  fits_to_z,
  fits_sub,
  fits_add,
  fits_mul,
  fits_div,
  fits_proved,
  read_back_sub,
  read_back_add,
  read_back_mul,
  read_back,
  cast_sign,
  cast_same,
  cast_32_64,
  cast_fits,
  cast_read,
  ltb-true,
  ltb-false,
  leb-true,
  leb-false,
  lt-ltb,
  le-ltb,
  le-leb,
  lt-leb,
)
