-- A search for the first place at which a test holds. Where the test, once true, stays true up to a place m, any way of looking
-- finds the same: from either side, or by halving.
-- Assumes nothing.
use Rattle.std.specs.Prelude.{Some, None}
use mathlib.Core.Path.{◌≡◌, refl, sym, subst}
use mathlib.Core.Bool.{Bool, true, false, cond}
use mathlib.Core.Logic.{⊎_elim}
use Prim.Native.Nat.{ℕ, zero, suc, ◌+◌, ◌≤◌, ◌<◌}
use native.Mathlib.Nat.{le_refl, eq-or-lt_of_le}
use native.Mathlib.Omega.{arith}
use Rattle.scanline.specs.Places.{find_from}

-- what a found place says of the test
pub record FoundAt (test : ℕ → Bool) (n k j : ℕ) : Type 0 where
  pub from : k ≤ j
  pub below : j < k + n
  pub holds : test j ≡ true
  pub none_before : (i : ℕ) → k ≤ i → i < j → test i ≡ false

module _ (test : ℕ → Bool) where
  pub find_at : (n k j : ℕ) → k ≤ j → j < k + n → ((i : ℕ) → k ≤ i → i < j → test i ≡ false) → test j ≡ true → find_from test n k ≡ Some j
  unfolding find_from
  find_at zero k j kj jn before here = absurd (omega arith)
  find_at (suc n) k j kj jn before here =
      ⊎_elim
      (λ e. let here' : test k ≡ true = subst (λ (i : ℕ). test i ≡ true) (sym e) here in rw (here', e))
      (λ l. rw (before k (le_refl k) l) (find_at n (suc k) j l (omega arith) (λ i ki ij. before i (omega arith) ij) here))
      (eq-or-lt_of_le kj)

  pub find_none : (n k : ℕ) → ((i : ℕ) → k ≤ i → i < k + n → test i ≡ false) → find_from test n k ≡ None
  unfolding find_from
  find_none zero k all = refl
  find_none (suc n) k all =
      rw (all k (le_refl k) (omega arith)) (find_none n (suc k) (λ i ki il. all i (omega arith) (omega arith)))

  -- and back
  pub found_at : (n k j : ℕ) → find_from test n k ≡ Some j → FoundAt test n k j
  unfolding find_from
  found_at zero k j e = let z : ◌≡◌ {A = ℕ} 0 1 = cc in absurd (omega arith)
  found_at (suc n) k j e = by_test (test k) refl e (found_at n (suc k) j)
    where
      by_test : (b : Bool) → test k ≡ b → cond b (Some k) (find_from test n (suc k)) ≡ Some j
          → (find_from test n (suc k) ≡ Some j → FoundAt test n (suc k) j) → FoundAt test (suc n) k j
      by_test true here e later =
          let q : k ≡ j = cc in
          record {
            from = omega arith;
            below = omega arith;
            holds = subst (λ (i : ℕ). test i ≡ true) q here;
            none_before = λ i ki ij. absurd (omega arith);
          }
      by_test false here e later =
          let r = later e in
          let f = r.from in
          let b = r.below in
          record {
            from = omega arith;
            below = omega arith;
            holds = r.holds;
            none_before =
                λ i ki ij. ⊎_elim (λ q. subst (λ (x : ℕ). test x ≡ false) q here) (λ l. r.none_before i l ij) (eq-or-lt_of_le ki);
          }

  pub found_none : (n k : ℕ) → find_from test n k ≡ None → (i : ℕ) → k ≤ i → i < k + n → test i ≡ false
  unfolding find_from
  found_none zero k e = λ i ki il. absurd (omega arith)
  found_none (suc n) k e = by_test (test k) refl e (found_none n (suc k))
    where
      by_test : (b : Bool) → test k ≡ b → cond b (Some k) (find_from test n (suc k)) ≡ None
          → (find_from test n (suc k) ≡ None → (i : ℕ) → suc k ≤ i → i < suc k + n → test i ≡ false)
          → (i : ℕ) → k ≤ i → i < k + suc n → test i ≡ false
      by_test true here e later i ki il = let z : ◌≡◌ {A = ℕ} 0 1 = cc in absurd (omega arith)
      by_test false here e later i ki il =
          ⊎_elim (λ q. subst (λ (x : ℕ). test x ≡ false) q here) (λ l. later e i l (omega arith)) (eq-or-lt_of_le ki)

-- where it is false, it is false before, from `from` up to m
abbrev pub Rising : (ℕ → Bool) → ℕ → ℕ → Type 0
Rising test from m = (i j : ℕ) → from ≤ i → i ≤ j → j ≤ m → test j ≡ false → test i ≡ false

-- lo and hi bracket the answer: all from `from` up to lo is false, hi is true
pub record Bracket (test : ℕ → Bool) (from m lo hi : ℕ) : Type 0 where
  pub from_le : from ≤ lo
  pub lo_le : lo ≤ hi
  pub hi_le : hi ≤ m
  pub below : (k : ℕ) → from ≤ k → k < lo → test k ≡ false
  pub here : test hi ≡ true

module _ {test : ℕ → Bool} {from m lo hi : ℕ} (b : Bracket test from m lo hi) where
  pub bracket_up : (k : ℕ) → Rising test from m → lo ≤ k → k < hi → test k ≡ false → Bracket test from m (k + 1) hi
  bracket_up k up lk kh e =
      let f = b.from_le in
      let h = b.hi_le in
      record {
        from_le = omega arith;
        lo_le = omega arith;
        hi_le = h;
        below = λ i fi il. up i k fi (omega arith) (omega arith) e;
        here = b.here;
      }

  pub bracket_end : (n : ℕ) → m < from + n → hi ≤ lo → find_from test n from ≡ Some hi
  bracket_end n mn hl =
      let f = b.from_le in
      let l = b.lo_le in
      let h = b.hi_le in
      find_at test n from hi (omega arith) (omega arith) (λ i fi il. b.below i fi (omega arith)) b.here
