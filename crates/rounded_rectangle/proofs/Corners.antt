-- A quadrant's test depends on the distances from its corner of the box alone, and so is the same for all four corners. A corner
-- without a width has nothing inside; there X does not matter.
-- Assumes nothing.
use mathlib.Core.Path.{◌≡◌, refl, sym, ap, ◌∙◌}
use Prim.Native.Nat.{ℕ, zero, suc, ◌-◌, ◌*◌, ◌<◌}
use native.Mathlib.Omega.{arith}
use lib.Dec.{ltb}
use lib.IntN.{ℤ, pos, nat_abs, ◌+ℤ◌, ◌-ℤ◌}
use lib.Signed.{lt_z, le_z}
use Rattle.signed.proofs.Laws.{int, tests_agree, add_law, sub_law}
use Rattle.geometry.specs.declared.Size.{Size}
use Rattle.ellipse.specs.Ellipse.{center2x, from_center2x, inside_about}
use Rattle.ellipse.specs.Relative.{gap, contains_of, below_threshold}
use Rattle.ellipse_search.specs.Search.{column_inside}
use Rattle.ellipse.proofs.Distances.{inside_by_distance, distance_from_first, distance_from_last, no_width_outside}
use Rattle.rounded_rectangle.specs.declared.RoundedRectangle.{RoundedRectangle}
use Rattle.rounded_rectangle.specs.Quadrants.{left, top, width, height, inside_whole, inside_top_left, inside_top_right, inside_bottom_right, inside_bottom_left}
use Rattle.rounded_rectangle.specs.Relative.{inside_corner}

-- the whole ellipse's test by the distances of a point from its C, where the ellipse has a width
whole_by_distances : (x₀ y₀ : ℤ) (radius : Size) (x y : ℤ) (d e : ℕ)
    → (0 < 2 * radius.width → nat_abs (from_center2x x (center2x x₀ (2 * radius.width))) ≡ gap (2 * radius.width) d)
    → nat_abs (from_center2x y (center2x y₀ (2 * radius.height))) ≡ gap (2 * radius.height) e
    → inside_whole x₀ y₀ radius x y ≡ inside_corner radius d e
unfolding inside_about inside_corner column_inside
whole_by_distances x₀ y₀ radius x y d e at_column at_row =
    inside_by_distance (2 * radius.width) (2 * radius.height) _ _
    ∙ ap (below_threshold (contains_of (2 * radius.width) (2 * radius.height)) _) at_row
    ∙ by_width (2 * radius.width) at_column
  where
    by_width : (w : ℕ) → (0 < w → nat_abs (from_center2x x (center2x x₀ w)) ≡ gap w d)
        → below_threshold (contains_of w (2 * radius.height)) (nat_abs (from_center2x x (center2x x₀ w))) (gap (2 * radius.height) e)
        ≡ below_threshold (contains_of w (2 * radius.height)) (gap w d) (gap (2 * radius.height) e)
    by_width zero f = no_width_outside (2 * radius.height) _ _ ∙ sym (no_width_outside (2 * radius.height) _ _)
    by_width (suc w) f =
        ap (λ (n : ℕ). below_threshold (contains_of (suc w) (2 * radius.height)) n (gap (2 * radius.height) e)) (f (omega arith))

-- the distance of the place that lies k before the last of n, in an ellipse of twice the radius r that ends where the n end
distance_mirrored : (first : ℤ) (n r k : ℕ) → k < n → 0 < r
    → nat_abs (from_center2x (first +ℤ pos (n - 1 - k)) (center2x (first +ℤ pos n -ℤ pos r -ℤ pos r) (2 * r))) ≡ gap (2 * r) k
distance_mirrored first n r k kn p = distance_from_last start x (2 * r) k (omega arith) meets
  where
    x : ℤ
    x = first +ℤ pos (n - 1 - k)

    start : ℤ
    start = first +ℤ pos n -ℤ pos r -ℤ pos r

    meets : x +ℤ pos k ≡ start +ℤ pos (2 * r - 1)
    meets =
        omega (
          arith,
          int,
          add_law x (pos k),
          add_law first (pos (n - 1 - k)),
          add_law start (pos (2 * r - 1)),
          sub_law
              (first +ℤ pos n -ℤ pos r) (pos r),
          sub_law (first +ℤ pos n) (pos r),
          add_law first (pos n),
        )

module _ (b : RoundedRectangle) where
  pub top_left_relative : (d e : ℕ) → inside_top_left b (left b +ℤ pos d) (top b +ℤ pos e) ≡ inside_corner b.corners.top_left d e
  unfolding inside_top_left
  top_left_relative d e =
      whole_by_distances _ _ b.corners.top_left _ _ d e (λ _. distance_from_first (left b) _ _ d refl)
      (distance_from_first (top b) _ _ e refl)

  pub top_right_relative : (d e : ℕ) → d < width b
      → inside_top_right b (left b +ℤ pos (width b - 1 - d)) (top b +ℤ pos e) ≡ inside_corner b.corners.top_right d e
  unfolding inside_top_right
  top_right_relative d e dw =
      whole_by_distances _ _ b.corners.top_right _ _ d e
      (λ p. distance_mirrored (left b) (width b) _ d dw (omega arith)) (distance_from_first (top b) _ _ e refl)

  pub bottom_left_relative : (d e : ℕ) → e < height b → 0 < b.corners.bottom_left.height
      → inside_bottom_left b (left b +ℤ pos d) (top b +ℤ pos (height b - 1 - e)) ≡ inside_corner b.corners.bottom_left d e
  unfolding inside_bottom_left
  bottom_left_relative d e eh p =
      whole_by_distances _ _ b.corners.bottom_left _ _ d e
      (λ _. distance_from_first (left b) _ _ d refl) (distance_mirrored (top b) (height b) _ e eh p)

  pub bottom_right_relative : (d e : ℕ) → d < width b → e < height b → 0 < b.corners.bottom_right.height
      → inside_bottom_right b (left b +ℤ pos (width b - 1 - d)) (top b +ℤ pos (height b - 1 - e)) ≡ inside_corner
      b.corners.bottom_right d e
  unfolding inside_bottom_right
  bottom_right_relative d e dw eh p =
      whole_by_distances _ _ b.corners.bottom_right _ _ d e
      (λ q. distance_mirrored (left b) (width b) _ d dw (omega arith)) (distance_mirrored (top b) (height b) _ e eh p)

-- ---- the tests on rows and columns
-- before the end of a quadrant that starts with the box
pub before_end_relative : (first : ℤ) (k r : ℕ) → lt_z (first +ℤ pos k) (first +ℤ pos r) ≡ ltb k r
before_end_relative first k r =
    tests_agree
    (λ e. omega (arith, int, add_law first (pos k), add_law first (pos r)))
    (λ e. omega (arith, int, add_law first (pos k), add_law first (pos r)))

-- from the start of a quadrant that ends with the box
pub from_start_relative : (first : ℤ) (n k r : ℕ) → k < n → le_z (first +ℤ pos n -ℤ pos r) (first +ℤ pos k) ≡ ltb (n - 1 - k) r
from_start_relative first n k r kn =
    tests_agree
    (λ e. omega (arith, int, add_law first (pos k), add_law first (pos n), sub_law (first +ℤ pos n) (pos r)))
    (λ e. omega (arith, int, add_law first (pos k), add_law first (pos n), sub_law (first +ℤ pos n) (pos r)))
