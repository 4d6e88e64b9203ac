-- The paper's test has signed X and Y; it depends on their distances from 0 alone. At a place counted from a corner of the box the
-- distance is the `gap` of the place, and the nearer a point the sooner it is inside.
-- Assumes nothing.
use mathlib.Core.Path.{◌≡◌, refl, ◌∙◌}
use mathlib.Core.Bool.{Bool, true, false, cond}
use Prim.Native.Nat.{ℕ, zero, suc, ◌+◌, ◌-◌, ◌*◌, ◌/◌, ◌≤◌, ◌<◌}
use native.Mathlib.Nat.{lt_of_le_of_lt, mul-le-mul, mul-le-mul_left, one-mul}
use native.Mathlib.Omega.{arith}
use borrow.Author.Tests.{ltb-true, lt-ltb, le-ltb}
use lib.Dec.{ltb, eqb, eqb-zero-suc, eqb-suc-zero}
use lib.IntN.{ℤ, pos, negsuc, nat_abs, ◌+ℤ◌, ◌-ℤ◌, ◌*ℤ◌}
use Rattle.signed.specs.Signed.{positive_part as P, negative_part as N}
use Rattle.signed.proofs.Laws.{int, add_law, sub_law, times_law, magnitude_law, sub_read}
use Rattle.ellipse.specs.declared.EllipseContains.{EllipseContains}
use Rattle.ellipse.specs.Ellipse.{center2x, from_center2x, threshold, inside}
use Rattle.ellipse.specs.Relative.{gap, contains_of, below_threshold}

-- ---- products of bounded numbers
pub square_le : {x n : ℕ} → x ≤ n → x * x ≤ n * n
square_le h = mul-le-mul h h

pub half_le_square : (w : ℕ) → w / 2 ≤ w * w
half_le_square zero = omega arith
half_le_square (suc n) = omega arith

-- ---- the test by distances
square_magnitude : (z : ℤ) → z *ℤ z ≡ pos (nat_abs z * nat_abs z)
square_magnitude (pos n) = refl
square_magnitude (negsuc n) = refl

-- one form for equal and unequal sides
weights_by_cases : (equal : Bool) (x y t p q m : ℕ)
    → cond equal (ltb (x + y) t) (ltb (p * x + q * y) m) ≡ ltb (cond equal 1 p * x + cond equal 1 q * y) (cond equal t m)
weights_by_cases true x y t p q m = rw (one-mul x, one-mul y)
weights_by_cases false x y t p q m = refl

pub inside_by_distance : (w h : ℕ) (X Y : ℤ) → inside w h X Y ≡ below_threshold (contains_of w h) (nat_abs X) (nat_abs Y)
unfolding inside below_threshold contains_of
inside_by_distance w h X Y =
    rw (square_magnitude X, square_magnitude Y)
    (weights_by_cases (eqb w h) (nat_abs X * nat_abs X) (nat_abs Y * nat_abs Y) (threshold w) (h * h) (w * w) (w * w * (h * h)))

-- ---- distances from C
-- of any point, by its own distance d from the corner
pub distance_from_corner : (point corner d : ℤ) (side : ℕ) → d ≡ point -ℤ corner
    → nat_abs (from_center2x point (center2x corner side)) ≡ (2 * P d - (2 * N d + (side - 1))) + (2 * N d + (side - 1) - 2 * P d)
unfolding from_center2x center2x
distance_from_corner point corner d side e =
    let c = pos 2 *ℤ corner +ℤ pos (side - 1) in
    magnitude_law (pos 2 *ℤ point -ℤ c)
    ∙ omega (
      arith,
      sub_read d point corner e,
      sub_law (pos 2 *ℤ point) c,
      times_law 2 point,
      add_law (pos 2 *ℤ corner) (pos (side - 1)),
      times_law 2 corner,
    )

module _ (first x : ℤ) (side k : ℕ) where
  -- of the place k after the first
  pub distance_from_first : x ≡ first +ℤ pos k → nat_abs (from_center2x x (center2x first side)) ≡ gap side k
  unfolding from_center2x center2x
  distance_from_first e =
      let c = pos 2 *ℤ first +ℤ pos (side - 1) in
      magnitude_law (pos 2 *ℤ x -ℤ c)
      ∙ omega (arith, int, sub_law (pos 2 *ℤ x) c, add_law (pos 2 *ℤ first) (pos (side - 1)), times_law 2 x, times_law 2 first)

  -- of the place k before the last
  pub distance_from_last : 0 < side → x +ℤ pos k ≡ first +ℤ pos (side - 1) → nat_abs (from_center2x x (center2x first side)) ≡ gap side k
  unfolding from_center2x center2x
  distance_from_last s e =
      let c = pos 2 *ℤ first +ℤ pos (side - 1) in
      magnitude_law (pos 2 *ℤ x -ℤ c)
      ∙ omega (
        arith,
        int,
        sub_law (pos 2 *ℤ x) c,
        add_law (pos 2 *ℤ first) (pos (side - 1)),
        add_law x (pos k),
        times_law 2 x,
        times_law 2 first,
      )

-- ---- distances of places: they fall up to the middle, are least there and largest at the edge
pub gap_falls : (n i j : ℕ) → i ≤ j → j ≤ (n - 1) / 2 → gap n j ≤ gap n i
gap_falls n i j ij jm = omega arith

pub gap_middle : (n k : ℕ) → gap n ((n - 1) / 2) ≤ gap n k
gap_middle n k = omega arith

pub gap_edge : (n k : ℕ) → k < n → gap n k ≤ gap n 0
gap_edge n k kn = omega arith

-- ---- nearer is inside
module _ (c : EllipseContains) {x x' y y' : ℕ} (hx : x ≤ x') (hy : y ≤ y') where
  weighted_sum_le : c.x_weight * (x * x) + c.y_weight * (y * y) ≤ c.x_weight * (x' * x') + c.y_weight * (y' * y')
  weighted_sum_le =
      omega (arith, mul-le-mul_left c.x_weight (square_le hx), mul-le-mul_left c.y_weight (square_le hy))

  pub nearer_inside : below_threshold c x' y' ≡ true → below_threshold c x y ≡ true
  unfolding below_threshold
  nearer_inside e = lt-ltb _ _ (lt_of_le_of_lt weighted_sum_le (ltb-true _ _ e))

-- ---- an ellipse without a side has nothing inside
pub no_width_outside : (h x y : ℕ) → below_threshold (contains_of 0 h) x y ≡ false
unfolding below_threshold contains_of threshold
no_width_outside zero x y = le-ltb (1 * (x * x) + 1 * (y * y)) 0 (omega arith)
no_width_outside (suc h) x y =
    rw (eqb-zero-suc h) (le-ltb (suc h * suc h * (x * x) + 0 * (y * y)) (0 * (suc h * suc h)) (omega arith))

pub no_height_outside : (w x y : ℕ) → below_threshold (contains_of w 0) x y ≡ false
unfolding below_threshold contains_of threshold
no_height_outside zero x y = le-ltb (1 * (x * x) + 1 * (y * y)) 0 (omega arith)
no_height_outside (suc w) x y =
    rw (eqb-suc-zero w) (le-ltb (0 * (x * x) + suc w * suc w * (y * y)) (suc w * suc w * 0) (omega arith))
