-- The edge that decides the crate rule is the one with the largest overlap of the four.
-- Assumes nothing.
use mathlib.Core.Path.{◌≡◌, refl, subst}
use mathlib.Core.Logic.{inl, inr}
use Prim.Native.Nat.{◌≤◌, ◌<◌}
use native.Mathlib.Nat.{le_refl, le_trans}
use native.Mathlib.Decide.{dec_le}
use native.Mathlib.Omega.{arith}
use borrow.Author.Tests.{lt-ltb, le-ltb}
use Rattle.corner.specs.declared.edge.Edge.{Edge}
use Rattle.corner.specs.declared.edge.Edges.{Edges}
use Rattle.corner.specs.Edge.{S, L, IsEdge, overlap, further_over, most_over, FitsEdges}

module _ (first next : Edge) where
  -- the arms of `further_over`
  pub further_over_next : overlap first < overlap next → next ≡ further_over first next
  unfolding further_over
  further_over_next l = simp (lt-ltb _ _ l)

  pub further_over_first : overlap next ≤ overlap first → first ≡ further_over first next
  unfolding further_over
  further_over_first l = simp (le-ltb _ _ l)

  -- what holds in each arm holds of the edge that goes on
  further_over_by_arms : (Q : Edge → Type 0) → (overlap first < overlap next → Q next)
      → (overlap next ≤ overlap first → Q first) → Q (further_over first next)
  further_over_by_arms Q larger not_larger = by_order (dec_le (overlap next) (overlap first))
    where
      by_order : Dec (overlap next ≤ overlap first) → Q (further_over first next)
      by_order (yes l) = subst Q (further_over_first l) (not_larger l)
      by_order (no n) =
          let l : overlap first < overlap next = omega arith in
          subst Q (further_over_next l) (larger l)

  -- neither of the two overlaps further than the one that goes on
  first_not_further : overlap first ≤ overlap (further_over first next)
  first_not_further =
      further_over_by_arms (λ e. overlap first ≤ overlap e) (λ l. omega arith) (λ l. le_refl _)

  next_not_further : overlap next ≤ overlap (further_over first next)
  next_not_further = further_over_by_arms (λ e. overlap next ≤ overlap e) (λ l. le_refl _) (λ l. l)

  -- and what holds of both holds of it
  further_over_either : (Q : Edge → Type 0) → Q first → Q next → Q (further_over first next)
  further_over_either Q f n = further_over_by_arms Q (λ _. n) (λ _. f)

  further_over_fits : S first ≤ L first → S next ≤ L next → S (further_over first next) ≤ L (further_over first next)
  further_over_fits f n = further_over_either (λ e. S e ≤ L e) f n

-- no edge has a larger S − L than the one that decides
pub record LargestOverlap (e : Edge) (es : Edges) : Type 0 where
  pub top : overlap es.top ≤ overlap e
  pub right : overlap es.right ≤ overlap e
  pub bottom : overlap es.bottom ≤ overlap e
  pub left : overlap es.left ≤ overlap e

pub most_over_largest : (es : Edges) → LargestOverlap (most_over es) es
most_over_largest es =
    record {
      top = le_trans (first_not_further es.top es.right) two_not_further;
      right = le_trans (next_not_further es.top es.right) two_not_further;
      bottom = le_trans (next_not_further two es.bottom) (first_not_further three es.left);
      left = next_not_further three es.left;
    }
  where
    two : Edge
    two = further_over es.top es.right

    three : Edge
    three = further_over two es.bottom

    two_not_further : overlap two ≤ overlap (most_over es)
    two_not_further = le_trans (first_not_further two es.bottom) (first_not_further three es.left)

-- it fits just where every edge does
pub most_over_fits : (es : Edges) → FitsEdges es → S (most_over es) ≤ L (most_over es)
most_over_fits es f =
    let two = further_over_fits es.top es.right f.top f.right in
    let three = further_over_fits _ es.bottom two f.bottom in
    further_over_fits _ es.left three f.left

pub fits_by_most_over : (es : Edges) → S (most_over es) ≤ L (most_over es) → FitsEdges es
unfolding overlap
fits_by_most_over es l =
    let b = most_over_largest es in
    let top = b.top in
    let right = b.right in
    let bottom = b.bottom in
    let left = b.left in
    record { top = omega arith; right = omega arith; bottom = omega arith; left = omega arith }

-- it is one of the four
pub most_over_is_edge : (es : Edges) → IsEdge (most_over es) es
most_over_is_edge es =
    let two = further_over_either es.top es.right (λ e. IsEdge e es) (inl refl) (inr (inl refl)) in
    let three = further_over_either _ es.bottom (λ e. IsEdge e es) two (inr (inr (inl refl))) in
    further_over_either _ es.left (λ e. IsEdge e es) three (inr (inr (inr refl)))
