-- Both rules give the fraction of which specs/Fraction.antt speaks: proved of the edge that decides, whichever it is.
-- Assumes nothing.
use mathlib.Core.Path.{◌≡◌, refl, sym, ap, subst}
use mathlib.Core.Logic.{⊎_elim}
use Prim.Native.Nat.{ℕ, ◌*◌, ◌/◌, ◌≤◌, ◌<◌}
use native.Mathlib.Nat.{le_refl, le_of_lt}
use native.Mathlib.Omega.{arith}
use Rattle.geometry.specs.declared.Size.{Size}
use Rattle.corner.specs.declared.edge.Edge.{Edge}
use Rattle.corner.specs.Edge.{S, L, IsEdge, most_over, tightest, FitsEdges}
use Rattle.corner.specs.Corner.{scaled_corner}
use Rattle.corner.proofs.MostOver.{most_over_is_edge, most_over_fits, fits_by_most_over}
use Rattle.corner.proofs.Tightest.{tightest_is_edge, tightest_fits, fits_by_tightest}
use Rattle.corner_radii.specs.declared.CornerRadii.{CornerRadii}
use Rattle.corner_radii.specs.declared.ConfinedRadii.{ConfinedRadii}
use Rattle.corner_radii.specs.CornerRadii.{edges, scaled, reduced_by, one_over_one, reduced, confine_w3c}
use Rattle.corner_radii.specs.Fraction.{FractionOf, Fractions}
use Rattle.corner_radii.specs.Bounds.{RadiiWithin}
use Rattle.corner_radii.proofs.Scaled.{scaled_by_one, scaled_within, scaled_number_stays}
use Rattle.corner_radii.proofs.Rules.{crate_by_most_over, w3c_by_tightest, reduced_by_arms, w3c_fits_edges}

-- where L < S and no radius changes, the radii along an edge are 0
no_radii : (r : CornerRadii) (s : Size) (l m : ℕ) (e : Edge) → l < m → scaled l m r ≡ r → IsEdge e (edges r s) → S e ≡ 0
unfolding scaled scaled_corner
no_radii r s l m e h stay is =
    let zero_at : (n : ℕ) → n * l / m ≡ n → n ≡ 0 = λ n. scaled_number_stays n l m h in
    let tlw = zero_at _ (ap (λ (c : CornerRadii). c.top_left.width) stay) in
    let tlh = zero_at _ (ap (λ (c : CornerRadii). c.top_left.height) stay) in
    let trw = zero_at _ (ap (λ (c : CornerRadii). c.top_right.width) stay) in
    let trh = zero_at _ (ap (λ (c : CornerRadii). c.top_right.height) stay) in
    let brw = zero_at _ (ap (λ (c : CornerRadii). c.bottom_right.width) stay) in
    let brh = zero_at _ (ap (λ (c : CornerRadii). c.bottom_right.height) stay) in
    let blw = zero_at _ (ap (λ (c : CornerRadii). c.bottom_left.width) stay) in
    let blh = zero_at _ (ap (λ (c : CornerRadii). c.bottom_left.height) stay) in
    ⊎_elim (λ q. let k = ap (λ (d : Edge). d.sum) q in omega arith)
    (⊎_elim (λ q. let k = ap (λ (d : Edge). d.sum) q in omega arith)
    (⊎_elim (λ q. let k = ap (λ (d : Edge). d.sum) q in omega arith) (λ q. let k = ap (λ (d : Edge). d.sum) q in omega arith)))
    is

-- an edge of the four that has S ≤ L just where every edge has
module _ (r : CornerRadii) (s : Size) (e : Edge) (is_edge : IsEdge e (edges r s)) (fits : FitsEdges (edges r s) → S e ≤ L e)
    (by_edge : S e ≤ L e → FitsEdges (edges r s)) where
  over_fraction : L e < S e → FractionOf r s (reduced_by (L e) (S e) r)
  unfolding reduced_by
  over_fraction l =
      record {
        of_edge = λ _. is_edge;
        by_fraction = refl;
        sum_above_zero = omega arith;
        length_at_most = le_of_lt l;
        one_over_one_lem = λ p q. absurd (omega arith);
        unchanged = λ stay. let z = no_radii r s (L e) (S e) e l stay is_edge in absurd (omega arith);
        fits = λ f. let k = fits f in absurd (omega arith);
        fits_if_equal = λ p. absurd (omega arith);
      }

  one_fraction : S e ≤ L e → FractionOf r s (one_over_one r)
  unfolding reduced_by
  one_fraction l =
      record {
        of_edge = λ k. absurd (omega arith);
        by_fraction = refl;
        sum_above_zero = omega arith;
        length_at_most = le_refl _;
        one_over_one_lem = λ _ _. scaled_by_one r;
        unchanged = λ _. (refl, refl);
        fits = λ _. (refl, refl);
        fits_if_equal = λ _. by_edge l;
      }

  reduced_fraction : FractionOf r s (reduced e r)
  reduced_fraction = reduced_by_arms (FractionOf r s) e r over_fraction one_fraction

pub fractions : (r : CornerRadii) (s : Size) → Fractions r s
fractions r s =
    let es = edges r s in
    record {
      crate_rule =
          subst (FractionOf r s) (sym (crate_by_most_over r s))
          (reduced_fraction r s (most_over es) (most_over_is_edge es) (most_over_fits es) (fits_by_most_over es));
      w3c_rule =
          subst (FractionOf r s) (sym (w3c_by_tightest r s))
          (reduced_fraction r s (tightest es) (tightest_is_edge es) (tightest_fits es) (fits_by_tightest es));
    }

-- ---- what follows for the radii alone
module _ {r : CornerRadii} {s : Size} {c : ConfinedRadii} (f : FractionOf r s c) where
  -- no radius is larger than it was
  pub fraction_within : RadiiWithin c.radii r
  fraction_within = subst (λ (q : CornerRadii). RadiiWithin q r) (sym f.by_fraction) (scaled_within _ _ r f.length_at_most)

  -- radii that fit stay
  fitting_stay : FitsEdges (edges r s) → c.radii ≡ r
  fitting_stay fit = let one = f.fits fit in f.one_over_one_lem one.0 one.1

pub w3c_fitting_stay : (r : CornerRadii) (s : Size) → FitsEdges (edges r s) → (confine_w3c r s).radii ≡ r
w3c_fitting_stay r s fit = fitting_stay (fractions r s).w3c_rule fit

-- so radii that the W3C rule has confined stay when they are confined again
pub w3c_confine_twice : (r : CornerRadii) (s : Size) → (confine_w3c (confine_w3c r s).radii s).radii ≡ (confine_w3c r s).radii
w3c_confine_twice r s = w3c_fitting_stay (confine_w3c r s).radii s (w3c_fits_edges r s)
