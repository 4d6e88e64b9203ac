-- The places of a sheet moved down over one that is taken out: so many of the list without it, from its start on.
-- Assumes nothing.
use mathlib.Core.Path.{◌≡◌, refl, sym, ap, ◌∙◌}
use mathlib.Core.List.{List, [], ◌∷◌, ◌++◌}
use Prim.Native.Nat.{ℕ, zero, suc, ◌<◌, ◌≤◌}
use native.Mathlib.Omega.{arith}
use lib.ListN.{length, take, drop, set, get_or, length-set}
use lib.Seq.{take-nil, take-append-le, take-suc, take-suc-set, take_all, length-take-le}
use Rattle.book.specs.Book.{without}
use Rattle.book.proofs.Lists.{length_without}

module _ {A : Type 0} where
  -- an element behind the one that is taken out
  element_moved : (i j : ℕ) (l : List A) (d : A) → i ≤ j → get_or (without i l) j d ≡ get_or l (suc j) d
  element_moved i j [] d le = ap (λ (t : List A). get_or t j d) (ap (λ (t : List A). t ++ []) (take-nil i))
  element_moved zero j (x ∷ l) d le = refl
  element_moved (suc i) zero (x ∷ l) d le = absurd (omega arith)
  element_moved (suc i) (suc j) (x ∷ l) d le = element_moved i j l d (omega arith)

  module _ (l : List A) (i : ℕ) (within : i < length l) (d : A) where
    -- before any is moved
    pub none_moved : take i l ≡ take i (without i l)
    none_moved =
        let long : length (take i l) ≡ i = length-take-le i l (omega arith) in
        sym (take-append-le i (take i l) (drop (suc i) l) (omega arith) ∙ take_all i (take i l) (omega arith))

    -- one more is moved
    pub one_moved : (moved : List A) (j : ℕ) → i ≤ j → suc j < length l → length moved ≡ length l
        → take j moved ≡ take j (without i l) → take (suc j) (set moved j (get_or l (suc j) d)) ≡ take (suc j) (without i l)
    one_moved moved j le room same before =
        take-suc-set moved j (get_or l (suc j) d) (omega arith)
        ∙ ap (λ (t : List A). t ++ (get_or l (suc j) d ∷ [])) before
        ∙ ap (λ (x : A). take j (without i l) ++ (x ∷ [])) (sym (element_moved i j l d le))
        ∙ sym (take-suc (without i l) j d (omega (arith, length_without i l within)))

    -- all are moved, and another is put last
    pub all_moved : (moved : List A) (j : ℕ) (last : A) → suc j ≡ length l → length moved ≡ length l
        → take j moved ≡ take j (without i l) → set moved j last ≡ without i l ++ (last ∷ [])
    all_moved moved j last end same before =
        sym (take_all (suc j) (set moved j last) (omega (arith, length-set moved j last)))
        ∙ take-suc-set moved j last (omega arith)
        ∙ ap (λ (t : List A). t ++ (last ∷ [])) (before ∙ take_all j (without i l) (omega (arith, length_without i l within)))
