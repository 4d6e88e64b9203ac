-- A search finds the same where it leaves out places at which the test is known to fail, and where it stops after the first
-- place at which it holds.
-- Assumes nothing.
use Rattle.std.specs.Prelude.{Some, None}
use mathlib.Core.Path.{◌≡◌, refl, sym, ap, ◌∙◌}
use mathlib.Core.Bool.{Bool, true, false, false≢true}
use Prim.Native.Nat.{ℕ, ◌+◌, ◌-◌, ◌≤◌, ◌<◌, max}
use native.Mathlib.Omega.{arith}
use borrow.Author.Tests.{ltb-true, ltb-false}
use lib.Dec.{ltb}
use Rattle.scanline.specs.Places.{find_from, Place}
use Rattle.scanline.proofs.Find.{find_at, find_none, found_at, found_none}
use Rattle.box_columns.specs.Columns.{NoneBefore}

-- by the order of two places
pub by_order : {X : Type 0} (i m : ℕ) → (i < m → X) → (m ≤ i → X) → X
by_order {X} i m before after = by_test (ltb i m) refl
  where
    by_test : (t : Bool) → ltb i m ≡ t → X
    by_test true e = before (ltb-true i m e)
    by_test false e = after (ltb-false i m e)

module _ (test : ℕ → Bool) where
  -- from a later place on, where all before it fails
  pub find_later : (from m to : ℕ) → from ≤ m → ((i : ℕ) → from ≤ i → i < m → test i ≡ false)
      → find_from test (to - from) from ≡ find_from test (to - m) m
  find_later from m to fm before = by_answer (find_from test (to - m) m) refl
    where
      -- up to m by what is given, from m on by the later search
      both : (j : ℕ) → ((i : ℕ) → m ≤ i → i < j → test i ≡ false) → (i : ℕ) → from ≤ i → i < j → test i ≡ false
      both j after i fi ij = by_order i m (λ l. before i fi l) (λ l. after i l ij)

      by_answer : (p : Place) → find_from test (to - m) m ≡ p → find_from test (to - from) from ≡ p
      by_answer (Some j) e =
          let f = found_at test (to - m) m j e in
          let a = f.from in
          let b = f.below in
          find_at test (to - from) from j (omega arith) (omega arith) (both j f.none_before) f.holds
      by_answer None e =
          find_none test (to - from) from
          (λ i fi il. both to (λ j mj jt. found_none test (to - m) m e j mj (omega arith)) i fi (omega arith))

  -- past the first n places
  pub find_past : (from n to : ℕ) → NoneBefore test n
      → find_from test (to - from) from ≡ find_from test (to - max from n) (max from n)
  find_past from n to none = find_later from (max from n) to (omega arith) (λ i fi im. none i (omega arith))

  -- one step of a walk
  pub find_here : (k to : ℕ) → k < to → test k ≡ true → Some k ≡ find_from test (to - k) k
  find_here k to l here = sym (find_at test (to - k) k k (omega arith) (omega arith) (λ i ki ik. absurd (omega arith)) here)

  pub find_next : (k to : ℕ) → test k ≡ false → find_from test (to - k) k ≡ find_from test (to - (k + 1)) (k + 1)
  find_next k to here = find_later k (k + 1) to (omega arith) (λ i ki ik. ap test (omega arith) ∙ here)

  pub find_end : (k to : ℕ) → to ≤ k → None ≡ find_from test (to - k) k
  find_end k to l = sym (find_none test (to - k) k (λ i ki il. absurd (omega arith)))

  -- what is found before one end is found before a later one
  pub find_longer : (from to later k : ℕ) → to ≤ later → Some k ≡ find_from test (to - from) from
      → Some k ≡ find_from test (later - from) from
  find_longer from to later k l e =
      let f = found_at test (to - from) from k (sym e) in
      let a = f.from in
      let b = f.below in
      sym (find_at test (later - from) from k a (omega arith) f.none_before f.holds)

  -- a place at which the test holds is not among the first n
  pub holds_past : (n k : ℕ) → NoneBefore test n → test k ≡ true → n ≤ k
  holds_past n k none here = by_order k n (λ l. absurd (false≢true (sym (none k l) ∙ here))) (λ l. l)

-- ---- places counted from the other edge of w
-- the places from one on and before another, seen from there: the place k is w − 1 − i
pub record FromRight (w from to i k : ℕ) : Type 0 where
  pub i_from : from ≤ i
  pub i_to : i < to
  pub k_from : w - to ≤ k
  pub k_below : k < w - to + (w - from - (w - to))
  pub k_in : k < w
  pub k_is : k ≡ w - 1 - i
  pub i_is : i ≡ w - 1 - k

pub to_right : (w from to i : ℕ) → to ≤ w → from ≤ i → i < to → FromRight w from to i (w - 1 - i)
to_right w from to i tw fi it =
    record {
      i_from = fi;
      i_to = it;
      k_from = omega arith;
      k_below = omega arith;
      k_in = omega arith;
      k_is = refl;
      i_is = omega arith;
    }

pub to_left : (w from to k : ℕ) → to ≤ w → w - to ≤ k → k < w - to + (w - from - (w - to)) → FromRight w from to (w - 1 - k) k
to_left w from to k tw tk kf =
    record {
      i_from = omega arith;
      i_to = omega arith;
      k_from = tk;
      k_below = kf;
      k_in = omega arith;
      k_is = omega arith;
      i_is = refl;
    }
