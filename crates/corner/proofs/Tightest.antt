-- The edge that decides the W3C rule: no edge has a smaller L / S than the tightest, so it overlaps where some edge does.
-- Assumes nothing.
use mathlib.Core.Path.{◌≡◌, refl, sym, ap, subst}
use mathlib.Core.Logic.{inl, inr}
use mathlib.Core.Bool.{Bool, true, false, ◌||◌, true≢false}
use Prim.Native.Nat.{ℕ, ◌*◌, ◌≤◌, ◌<◌}
use native.Mathlib.Nat.{le_refl, le_of_lt, mul_comm, mul-le-mul_left, mul-le-mul_right, mul_right_comm, le_of_mul-le-mul_right, mul-lt-mul_of_pos_right}
use native.Mathlib.Decide.{dec_le}
use native.Mathlib.Omega.{arith}
use borrow.Author.Tests.{lt-ltb, le-ltb, ltb-false, eq-eqb, ne_eqb}
use Rattle.corner.specs.declared.edge.Edge.{Edge}
use Rattle.corner.specs.declared.edge.Edges.{Edges}
use Rattle.corner.specs.Edge.{S, L, IsEdge, over, tighter, tightest, some_over, FitsEdges}

-- ---- the arms of `tighter`
module _ (first next : Edge) where
  pub tighter_no_radii : S next ≡ 0 → first ≡ tighter first next
  unfolding tighter
  tighter_no_radii n = simp (le-ltb 0 (S next) (omega arith))

  pub tighter_only_radii : 0 < S next → S first ≡ 0 → next ≡ tighter first next
  unfolding tighter
  tighter_only_radii n f = simp (lt-ltb 0 (S next) n, eq-eqb (S first) 0 f)

  module _ (n : 0 < S next) (f : 0 < S first) where
    pub tighter_next : L next * S first < L first * S next → next ≡ tighter first next
    unfolding tighter
    tighter_next l = simp (lt-ltb 0 (S next) n, ne_eqb (S first) 0 (λ e. omega arith), lt-ltb _ _ l)

    pub tighter_first : L first * S next ≤ L next * S first → first ≡ tighter first next
    unfolding tighter
    tighter_first l = simp (lt-ltb 0 (S next) n, ne_eqb (S first) 0 (λ e. omega arith), le-ltb _ _ l)

  -- what holds in each arm holds of the tighter
  pub tighter_by_arms : (Q : Edge → Type 0) → (S next ≡ 0 → Q first) → (0 < S next → S first ≡ 0 → Q next)
      → (0 < S next → 0 < S first → L next * S first < L first * S next → Q next)
      → (0 < S next → 0 < S first → L first * S next ≤ L next * S first → Q first) → Q (tighter first next)
  tighter_by_arms Q no_radii only_radii smaller not_smaller =
      by_tests (dec_le (S next) 0) (dec_le (S first) 0) (dec_le (L first * S next) (L next * S first))
    where
      by_tests : Dec (S next ≤ 0) → Dec (S first ≤ 0) → Dec (L first * S next ≤ L next * S first) → Q (tighter first next)
      by_tests (yes n) f l = let z : S next ≡ 0 = omega arith in subst Q (tighter_no_radii z) (no_radii z)
      by_tests (no n) (yes f) l =
          let p : 0 < S next = omega arith in
          let z : S first ≡ 0 = omega arith in
          subst Q (tighter_only_radii p z) (only_radii p z)
      by_tests (no n) (no f) (yes l) =
          let p : 0 < S next = omega arith in
          let q : 0 < S first = omega arith in
          subst Q (tighter_first p q l) (not_smaller p q l)
      by_tests (no n) (no f) (no l) =
          let p : 0 < S next = omega arith in
          let q : 0 < S first = omega arith in
          let m : L next * S first < L first * S next = omega arith in
          subst Q (tighter_next p q m) (smaller p q m)

-- ---- the order of the ratios
-- L / S of e is at most that of f, and e has radii where f has
pub record RatioAtMost (e f : Edge) : Type 0 where
  pub radii : 0 < S f → 0 < S e
  pub ratio : L e * S f ≤ L f * S e

ratio_at_most_itself : (e : Edge) → RatioAtMost e e
ratio_at_most_itself e = record { radii = λ l. l; ratio = le_refl _ }

ratio_at_most_no_radii : (e f : Edge) → S f ≡ 0 → RatioAtMost e f
ratio_at_most_no_radii e f z =
    record { radii = λ l. absurd (omega arith); ratio = omega (arith, ap (λ (m : ℕ). L e * m) z) }

-- l / s ≤ l' / s' ≤ l'' / s''
ratio_trans : (l s l' s' l'' s'' : ℕ) → 0 < s' → l * s' ≤ l' * s → l' * s'' ≤ l'' * s' → l * s'' ≤ l'' * s
ratio_trans l s l' s' l'' s'' p a b = le_of_mul-le-mul_right times_s' p
  where
    times_s' : l * s'' * s' ≤ l'' * s * s'
    times_s' =
        let first_by_s'' = mul-le-mul_right s'' a in
        let next_by_s = mul-le-mul_right s b in
        omega (arith, mul_right_comm l s'' s', mul_right_comm l' s s'', mul_right_comm l'' s s')

-- the tighter of two is at most both, and at most all that the first was at most
module _ (first next : Edge) where
  tighter_at_most_next : RatioAtMost (tighter first next) next
  tighter_at_most_next =
      tighter_by_arms first next (λ e. RatioAtMost e next)
      (ratio_at_most_no_radii first next)
      (λ p z. ratio_at_most_itself next)
      (λ p q l. ratio_at_most_itself next)
      (λ p q l. record { radii = λ _. q; ratio = l })

  tighter_at_most : (f : Edge) → RatioAtMost first f → RatioAtMost (tighter first next) f
  tighter_at_most f b =
      tighter_by_arms first next (λ e. RatioAtMost e f)
      (λ z. b)
      (λ p z. ratio_at_most_no_radii next f (none z (dec_le (S f) 0)))
      (λ p q l. record { radii = λ _. p; ratio = ratio_trans _ _ _ _ _ _ q (le_of_lt l) b.ratio })
      (λ p q l. b)
    where
      none : S first ≡ 0 → Dec (S f ≤ 0) → S f ≡ 0
      none z (yes l) = omega arith
      none z (no l) = absurd (omega (arith, b.radii (omega arith)))

  -- what holds of both holds of it
  tighter_either : (Q : Edge → Type 0) → Q first → Q next → Q (tighter first next)
  tighter_either Q f n = tighter_by_arms first next Q (λ _. f) (λ _ _. n) (λ _ _ _. n) (λ _ _ _. f)

  tighter_fits : S first ≤ L first → S next ≤ L next → S (tighter first next) ≤ L (tighter first next)
  tighter_fits f n = tighter_either (λ e. S e ≤ L e) f n

-- where an edge fits, each with a larger ratio fits
ratio_fits : {e f : Edge} → RatioAtMost e f → S e ≤ L e → S f ≤ L f
ratio_fits {e} {f} b fits = by_order (dec_le (S f) (L f))
  where
    by_order : Dec (S f ≤ L f) → S f ≤ L f
    by_order (yes l) = l
    by_order (no n) =
        let m : L f < S f = omega arith in
        let p : 0 < L e = omega (arith, b.radii (omega arith)) in
        absurd (omega (arith, b.ratio, mul-le-mul_left (L f) fits, mul-lt-mul_of_pos_right m p, mul_comm (S f) (L e)))

-- no edge has a smaller L / S than the tightest
pub record SmallestRatio (e : Edge) (es : Edges) : Type 0 where
  pub top : RatioAtMost e es.top
  pub right : RatioAtMost e es.right
  pub bottom : RatioAtMost e es.bottom
  pub left : RatioAtMost e es.left

pub tightest_smallest : (es : Edges) → SmallestRatio (tightest es) es
tightest_smallest es =
    record {
      top = of_three _ (of_two _ (tighter_at_most es.top es.right es.top (ratio_at_most_itself es.top)));
      right = of_three _ (of_two _ (tighter_at_most_next es.top es.right));
      bottom = of_three _ (tighter_at_most_next two es.bottom);
      left = tighter_at_most_next three es.left;
    }
  where
    two : Edge
    two = tighter es.top es.right

    three : Edge
    three = tighter two es.bottom

    of_two : (f : Edge) → RatioAtMost two f → RatioAtMost three f
    of_two = tighter_at_most two es.bottom

    of_three : (f : Edge) → RatioAtMost three f → RatioAtMost (tightest es) f
    of_three = tighter_at_most three es.left

-- the tightest is one of the four
pub tightest_is_edge : (es : Edges) → IsEdge (tightest es) es
tightest_is_edge es =
    let two = tighter_either es.top es.right (λ e. IsEdge e es) (inl refl) (inr (inl refl)) in
    let three = tighter_either _ es.bottom (λ e. IsEdge e es) two (inr (inr (inl refl))) in
    tighter_either _ es.left (λ e. IsEdge e es) three (inr (inr (inr refl)))

-- ---- some S > L, asked of the tightest edge alone
neither_left : (a b : Bool) → a || b ≡ false → a ≡ false
neither_left true b e = e
neither_left false b e = refl

neither_right : (a b : Bool) → a || b ≡ false → b ≡ false
neither_right true b e = absurd (true≢false e)
neither_right false b e = e

pub none_over_fits : (es : Edges) → some_over es ≡ false → FitsEdges es
unfolding some_over
none_over_fits es e =
    let e₂ = neither_right (over es.top) _ e in
    let e₃ = neither_right (over es.right) _ e₂ in
    record {
      top = ltb-false _ _ (neither_left (over es.top) _ e);
      right = ltb-false _ _ (neither_left (over es.right) _ e₂);
      bottom = ltb-false _ _ (neither_left (over es.bottom) _ e₃);
      left = ltb-false _ _ (neither_right (over es.bottom) _ e₃);
    }

fits_none_over : (es : Edges) → FitsEdges es → some_over es ≡ false
unfolding some_over
fits_none_over es f = simp (le-ltb _ _ f.top, le-ltb _ _ f.right, le-ltb _ _ f.bottom, le-ltb _ _ f.left)

pub tightest_fits : (es : Edges) → FitsEdges es → S (tightest es) ≤ L (tightest es)
tightest_fits es f =
    let two = tighter_fits es.top es.right f.top f.right in
    let three = tighter_fits _ es.bottom two f.bottom in
    tighter_fits _ es.left three f.left

pub fits_by_tightest : (es : Edges) → S (tightest es) ≤ L (tightest es) → FitsEdges es
fits_by_tightest es l =
    let b = tightest_smallest es in
    record {
      top = ratio_fits b.top l;
      right = ratio_fits b.right l;
      bottom = ratio_fits b.bottom l;
      left = ratio_fits b.left l;
    }

false_together : {a b : Bool} → (a ≡ false → b ≡ false) → (b ≡ false → a ≡ false) → a ≡ b
false_together {a = true} {b = true} f g = refl
false_together {a = true} {b = false} f g = g refl
false_together {a = false} f g = sym (f refl)

pub some_over_by_tightest : (es : Edges) → some_over es ≡ over (tightest es)
some_over_by_tightest es =
    false_together
    (λ e. le-ltb _ _ (tightest_fits es (none_over_fits es e)))
    (λ e. fits_none_over es (fits_by_tightest es (ltb-false _ _ e)))
