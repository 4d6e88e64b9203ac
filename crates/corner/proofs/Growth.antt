-- The laws of a W3C corner's growth. What is taken off below k is (k − r)³ / k² rounded up, which is at most k − r, since (k − r)² is at
-- most k². All others follow from r + k with that taken off.
-- Assumes nothing.
use mathlib.Core.Path.{◌≡◌, refl, ap}
use Prim.Native.Nat.{ℕ, ◌+◌, ◌-◌, ◌*◌, ◌/◌, ◌≤◌, ◌<◌}
use native.Mathlib.Nat.{le_trans, mul_assoc, add-mul, mul-pos, mul-le-mul, mul-le-mul_left, mul-le-mul_right, le_of_mul-le-mul_right, mod-lt, div-add-mod', div-mul-le_self}
use native.Mathlib.Decide.{dec_le}
use native.Mathlib.Omega.{arith}
use borrow.Author.Tests.{lt-ltb, le-ltb}
use Rattle.corner.specs.Growth.{ceil_div, cube, square, grown_radius, RoundedUp, Growth, GrowthByFour}

-- ---- rounding up
module _ (n m : ℕ) (p : 0 < m) where
  ceil_enough : n ≤ ceil_div n m * m
  unfolding ceil_div
  ceil_enough = omega (arith, div-add-mod' (n + (m - 1)) m, mod-lt (n + (m - 1)) p)

  ceil_least : (d : ℕ) → n ≤ d * m → ceil_div n m ≤ d
  unfolding ceil_div
  ceil_least d h = by_order (dec_le ((n + (m - 1)) / m) d)
    where
      by_order : Dec ((n + (m - 1)) / m ≤ d) → (n + (m - 1)) / m ≤ d
      by_order (yes l) = l
      by_order (no l) =
          let more : d + 1 ≤ (n + (m - 1)) / m = omega arith in
          absurd (omega (arith, mul-le-mul_right m more, add-mul d 1 m, div-mul-le_self (n + (m - 1)) m))

  ceil_rounded_up : RoundedUp n m (ceil_div n m)
  ceil_rounded_up = record { enough = ceil_enough; least = ceil_least }

-- ---- products
pub square_le : {n m : ℕ} → n ≤ m → square n ≤ square m
square_le h = mul-le-mul h h

pub cube_le : {n m : ℕ} → n ≤ m → cube n ≤ cube m
cube_le h = mul-le-mul (square_le h) h

-- ---- what is taken off below k
abbrev taken : ℕ → ℕ → ℕ
taken k r = ceil_div (cube (k - r)) (square k)

module _ (k r : ℕ) (below : r < k) where
  pub square_above_zero : 0 < square k
  square_above_zero = let p : 0 < k = omega arith in mul-pos p p

  taken_rounded_up : RoundedUp (cube (k - r)) (square k) (taken k r)
  taken_rounded_up = ceil_rounded_up _ _ square_above_zero

  pub taken_at_most : taken k r ≤ k - r
  taken_at_most =
      let short : k - r ≤ k = omega arith in
      taken_rounded_up.least (k - r) (omega (arith, mul_assoc (k - r) (k - r) (k - r), mul-le-mul_left (k - r) (square_le short)))

  -- the arms of `grown_radius`
  pub grown_below : grown_radius k r ≡ r + k - taken k r
  unfolding grown_radius
  grown_below = simp (lt-ltb r k below)

  grown_exact : grown_radius k r + taken k r ≡ r + k
  grown_exact = omega (arith, grown_below, taken_at_most)

pub grown_whole : (k r : ℕ) → k ≤ r → grown_radius k r ≡ r + k
unfolding grown_radius
grown_whole k r l = simp (le-ltb r k l)

-- ---- the laws
grown_sharp : (k : ℕ) → grown_radius k 0 ≡ 0
grown_sharp k = by_order (dec_le k 0)
  where
    by_order : Dec (k ≤ 0) → grown_radius k 0 ≡ 0
    by_order (yes l) = omega (arith, grown_whole k 0 l)
    by_order (no n) =
        let below : 0 < k = omega arith in
        let same : k - 0 ≡ k = omega arith in
        let times_square : k * square k ≤ taken k 0 * square k =
        omega (arith, ap (λ (n : ℕ). cube n) same, mul_assoc k k k, (taken_rounded_up k 0 below).enough) in
        let all : k ≤ taken k 0 = le_of_mul-le-mul_right times_square (square_above_zero k 0 below) in
        omega (arith, grown_exact k 0 below)

module _ (k r : ℕ) where
  grown_at_least : r ≤ grown_radius k r
  grown_at_least = by_order (dec_le k r)
    where
      by_order : Dec (k ≤ r) → r ≤ grown_radius k r
      by_order (yes l) = omega (arith, grown_whole k r l)
      by_order (no n) =
          let below : r < k = omega arith in
          omega (arith, grown_exact k r below, taken_at_most k r below)

  pub grown_at_most : grown_radius k r ≤ r + k
  grown_at_most = by_order (dec_le k r)
    where
      by_order : Dec (k ≤ r) → grown_radius k r ≤ r + k
      by_order (yes l) = omega (arith, grown_whole k r l)
      by_order (no n) = omega (arith, grown_exact k r (omega arith))

-- from q to r less is taken off
taken_falls : (k q r : ℕ) → q ≤ r → r < k → taken k r ≤ taken k q
taken_falls k q r h below =
    let below_q : q < k = omega arith in
    let shorter : k - r ≤ k - q = omega arith in
    (taken_rounded_up k r below).least (taken k q)
    (le_trans (cube_le shorter) (taken_rounded_up k q below_q).enough)

grown_monotone : (k q r : ℕ) → q ≤ r → grown_radius k q ≤ grown_radius k r
grown_monotone k q r h = by_order (dec_le k r)
  where
    by_order : Dec (k ≤ r) → grown_radius k q ≤ grown_radius k r
    by_order (yes l) = omega (arith, grown_at_most k q, grown_whole k r l)
    by_order (no n) =
        let below : r < k = omega arith in
        omega (arith, grown_exact k q (omega arith), grown_exact k r below, taken_falls k q r h below)

pub growth : (k r : ℕ) → Growth k r
growth k r =
    record {
      rounded_up = taken_rounded_up k r;
      exact = grown_exact k r;
      sharp = grown_sharp k;
      whole = grown_whole k r;
      at_least = grown_at_least k r;
      at_most = grown_at_most k r;
      monotone = λ q h. grown_monotone k q r h;
    }

pub growth_by_four : GrowthByFour
unfolding grown_radius ceil_div
growth_by_four = refl
