-- An element of a list by its number: the list split there, the element replaced or taken out, and these in the image of a
-- list. All by recursion on the number and the list.
-- Assumes nothing.
use mathlib.Core.Path.{◌≡◌, refl, sym, ap, ap₂, ◌∙◌}
use mathlib.Core.List.{List, [], ◌∷◌, ◌++◌, map, map-append}
use mathlib.Core.Option
use mathlib.Core.Option.{some, some-injective, none-ne-some}
use Prim.Native.Nat.{ℕ, zero, suc, ◌<◌, ◌≤◌}
use native.Mathlib.Omega.{arith}
use lib.ListN.{length, take, drop, set, get_elem?}
use lib.Seq.{take-append-le}
use Rattle.book.specs.Book.{without}

module _ {A : Type 0} where
  pub split_at_element : (l : List A) (i : ℕ) (a : A) → get_elem? l i ≡ some a → l ≡ take i l ++ a ∷ drop (suc i) l
  split_at_element [] i a e = absurd (none-ne-some a e)
  split_at_element (x ∷ l) zero a e = ap {B = List A} (λ t. t ∷ l) (some-injective x a e)
  split_at_element (x ∷ l) (suc i) a e = ap {B = List A} (λ t. x ∷ t) (split_at_element l i a e)

  pub set_at_element : (l : List A) (i : ℕ) (a b : A) → get_elem? l i ≡ some a → set l i b ≡ take i l ++ b ∷ drop (suc i) l
  set_at_element [] i a b e = absurd (none-ne-some a e)
  set_at_element (x ∷ l) zero a b e = refl
  set_at_element (x ∷ l) (suc i) a b e = ap {B = List A} (λ t. x ∷ t) (set_at_element l i a b e)

  pub element_at_seam : (l : List A) (a : A) (m : List A) → get_elem? (l ++ a ∷ m) (length l) ≡ some a
  element_at_seam [] a m = refl
  element_at_seam (x ∷ l) a m = element_at_seam l a m

  pub element_there : (l : List A) (i : ℕ) → i < length l → (a : A) × (get_elem? l i ≡ some a)
  element_there [] i h = absurd (omega arith)
  element_there (x ∷ l) zero h = (x, refl)
  element_there (x ∷ l) (suc i) h = element_there l i (omega arith)

  -- a part of a list that begins with that list without an element
  pub take_without : (n i : ℕ) (l m : List A) → i ≤ n → n < length l → take n (without i l ++ m) ≡ without i (take (suc n) l)
  take_without n i [] m le h = absurd (omega arith)
  take_without n zero (x ∷ l) m le h = take-append-le n l m (omega arith)
  take_without zero (suc i) (x ∷ l) m le h = absurd (omega arith)
  take_without (suc n) (suc i) (x ∷ l) m le h = ap {B = List A} (λ t. x ∷ t) (take_without n i l m (omega arith) (omega arith))

  pub length_without : (i : ℕ) (l : List A) → i < length l → suc (length (without i l)) ≡ length l
  length_without i [] h = absurd (omega arith)
  length_without zero (x ∷ l) h = refl
  length_without (suc i) (x ∷ l) h = ap suc (length_without i l (omega arith))

module _ {A B : Type 0} (f : A → B) where
  pub element_map : (l : List A) (i : ℕ) → get_elem? (map f l) i ≡ Option.map f (get_elem? l i)
  element_map [] i = refl
  element_map (x ∷ l) zero = refl
  element_map (x ∷ l) (suc i) = element_map l i

  pub take_map : (i : ℕ) (l : List A) → take i (map f l) ≡ map f (take i l)
  take_map zero l = refl
  take_map (suc i) [] = refl
  take_map (suc i) (x ∷ l) = ap {B = List B} (λ t. f x ∷ t) (take_map i l)

  pub set_map : (l : List A) (i : ℕ) (a : A) → set (map f l) i (f a) ≡ map f (set l i a)
  set_map [] i a = refl
  set_map (x ∷ l) zero a = refl
  set_map (x ∷ l) (suc i) a = ap {B = List B} (λ t. f x ∷ t) (set_map l i a)

  pub drop_map : (i : ℕ) (l : List A) → drop i (map f l) ≡ map f (drop i l)
  drop_map zero l = refl
  drop_map (suc i) [] = refl
  drop_map (suc i) (x ∷ l) = drop_map i l

  pub without_map : (i : ℕ) (l : List A) → without i (map f l) ≡ map f (without i l)
  without_map i l =
      ap₂ {C = List B} (λ a b. a ++ b) (take_map i l) (drop_map (suc i) l) ∙ sym (map-append f (take i l) (drop (suc i) l))
