-- Both rules go by the edge that decides them: the crate rule by the one that overlaps most, the W3C rule by the tightest, which overlaps
-- where some edge does. And reducing by the tightest makes every edge fit.
-- Assumes nothing.
use mathlib.Core.Path.{◌≡◌, refl, sym, ap, subst}
use mathlib.Core.Bool.{Bool, true, false, cond}
use Prim.Native.Nat.{ℕ, ◌+◌, ◌*◌, ◌/◌, ◌≤◌, ◌<◌}
use native.Mathlib.Nat.{mul_comm, add-mul, le_of_mul-le-mul_right, div-mul-le_self}
use native.Mathlib.Omega.{arith}
use borrow.Author.Tests.{ltb-true, ltb-false}
use Rattle.geometry.specs.declared.Size.{Size}
use Rattle.corner.specs.declared.edge.Edge.{Edge}
use Rattle.corner.specs.Edge.{S, L, over, most_over, tightest, FitsEdges}
use Rattle.corner.specs.Corner.{scaled_corner}
use Rattle.corner.proofs.Tightest.{tightest_smallest, fits_by_tightest, some_over_by_tightest}
use Rattle.corner_radii.specs.declared.CornerRadii.{CornerRadii}
use Rattle.corner_radii.specs.declared.ConfinedRadii.{ConfinedRadii}
use Rattle.corner_radii.specs.CornerRadii.{edges, scaled, reduced_by, one_over_one, reduced, confine, confine_w3c}
use Rattle.corner_radii.proofs.Scaled.{scaled_by_one}

pub crate_by_most_over : (r : CornerRadii) (s : Size) → confine r s ≡ reduced (most_over (edges r s)) r
unfolding confine
crate_by_most_over r s = refl

pub w3c_by_tightest : (r : CornerRadii) (s : Size) → confine_w3c r s ≡ reduced (tightest (edges r s)) r
unfolding confine_w3c reduced
w3c_by_tightest r s =
    let e = tightest (edges r s) in
    ap (λ (t : Bool). cond t (reduced_by (L e) (S e) r) (one_over_one r)) (some_over_by_tightest (edges r s))

-- what holds in each arm holds of the radii reduced by an edge
pub reduced_by_arms : (Q : ConfinedRadii → Type 0) (e : Edge) (r : CornerRadii) → (L e < S e → Q (reduced_by (L e) (S e) r))
    → (S e ≤ L e → Q (one_over_one r)) → Q (reduced e r)
unfolding reduced
reduced_by_arms Q e r f g = by_test (over e) (λ t. f (ltb-true _ _ t)) (λ t. g (ltb-false _ _ t))
  where
    by_test : (t : Bool) → (t ≡ true → Q (reduced_by (L e) (S e) r)) → (t ≡ false → Q (one_over_one r))
        → Q (cond t (reduced_by (L e) (S e) r) (one_over_one r))
    by_test true f g = f refl
    by_test false f g = g refl

-- ---- after the W3C rule every edge has S ≤ L
scaled_sum_fits : (a b l s room : ℕ) → 0 < s → l * (a + b) ≤ room * s → a * l / s + b * l / s ≤ room
scaled_sum_fits a b l s room p h = le_of_mul-le-mul_right times_s p
  where
    times_s : (a * l / s + b * l / s) * s ≤ room * s
    times_s =
        let a_le = div-mul-le_self (a * l) s in
        let b_le = div-mul-le_self (b * l) s in
        omega (arith, add-mul (a * l / s) (b * l / s) s, add-mul a b l, mul_comm l (a + b))

scaled_fits : (r : CornerRadii) (s : Size) → L (tightest (edges r s)) < S (tightest (edges r s))
    → FitsEdges (edges (scaled (L (tightest (edges r s))) (S (tightest (edges r s))) r) s)
unfolding scaled scaled_corner
scaled_fits r s l =
    let b = tightest_smallest (edges r s) in
    let p : 0 < S (tightest (edges r s)) = omega arith in
    record {
      top = scaled_sum_fits _ _ _ _ _ p b.top.ratio;
      right = scaled_sum_fits _ _ _ _ _ p b.right.ratio;
      bottom = scaled_sum_fits _ _ _ _ _ p b.bottom.ratio;
      left = scaled_sum_fits _ _ _ _ _ p b.left.ratio;
    }

pub w3c_fits_edges : (r : CornerRadii) (s : Size) → FitsEdges (edges (confine_w3c r s).radii s)
unfolding reduced_by
w3c_fits_edges r s =
    subst Fits (sym (w3c_by_tightest r s)) (reduced_by_arms Fits (tightest (edges r s)) r (scaled_fits r s)
    (λ l. subst (λ (q : CornerRadii). FitsEdges (edges q s)) (sym (scaled_by_one r)) (fits_by_tightest (edges r s) l)))
  where
    Fits : ConfinedRadii → Type 0
    Fits c = FitsEdges (edges c.radii s)
