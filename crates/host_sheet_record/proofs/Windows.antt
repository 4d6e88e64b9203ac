-- Writes into a list, seen through a part of it: before the part and behind it they change nothing there.
-- Assumes nothing.
use mathlib.Core.Path.{◌≡◌, refl, ap, ◌∙◌}
use mathlib.Core.List.{List, [], ◌∷◌}
use Prim.Native.Nat.{ℕ, suc, ◌+◌, ◌-◌, ◌≤◌}
use native.Mathlib.Omega.{arith}
use lib.ListN.{length, take, drop, set}
use lib.Seq.{sets, drop-set-lt, drop-set-add, take-set-le}

module _ {A : Type 0} where
  -- written before a place, what stands from there on stays
  pub drop_sets_before : (a p : ℕ) (l vs : List A) → p + length vs ≤ a → drop a (sets l p vs) ≡ drop a l
  drop_sets_before a p l [] past = refl
  drop_sets_before a p l (v ∷ vs) past =
      drop_sets_before a (suc p) (set l p v) vs (omega arith) ∙ drop-set-lt a l p v (omega arith)

  -- written from a place on, it is written into what stands from there on
  pub drop_sets_add : (a q : ℕ) (l vs : List A) → drop a (sets l (a + q) vs) ≡ sets (drop a l) q vs
  drop_sets_add a q l [] = refl
  drop_sets_add a q l (v ∷ vs) =
      let next : suc (a + q) ≡ a + suc q = omega arith in
      ap (λ (k : ℕ). drop a (sets (set l (a + q) v) k vs)) next
      ∙ drop_sets_add a (suc q) (set l (a + q) v) vs
      ∙ ap (λ (m : List A). sets m (suc q) vs) (drop-set-add a l q v)

  -- written behind a part, the part stays
  pub take_sets_behind : (m q : ℕ) (l vs : List A) → m ≤ q → take m (sets l q vs) ≡ take m l
  take_sets_behind m q l [] behind = refl
  take_sets_behind m q l (v ∷ vs) behind =
      take_sets_behind m (suc q) (set l q v) vs (omega arith) ∙ take-set-le m l q v behind

  -- so a part of a list is what it was, wherever the writing was before it or behind it
  pub part_before : (n a p : ℕ) (l vs : List A) → p + length vs ≤ a → take n (drop a (sets l p vs)) ≡ take n (drop a l)
  part_before n a p l vs past = ap (take n) (drop_sets_before a p l vs past)

  pub part_behind : (n a p : ℕ) (l vs : List A) → a + n ≤ p → take n (drop a (sets l p vs)) ≡ take n (drop a l)
  part_behind n a p l vs behind = from (p - a) (omega arith) (omega arith)
    where
      from : (q : ℕ) → p ≡ a + q → n ≤ q → take n (drop a (sets l p vs)) ≡ take n (drop a l)
      from q at behind =
          ap (λ (k : ℕ). take n (drop a (sets l k vs))) at
          ∙ ap (take n) (drop_sets_add a q l vs)
          ∙ take_sets_behind n q (drop a l) vs behind
