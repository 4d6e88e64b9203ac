-- Numbers read from a list, and walks over it: what is left, by what stands there.
-- Assumes nothing.
use mathlib.Core.Path.{◌≡◌, sym, ap, ◌∙◌}
use mathlib.Core.Bool.{Bool, true, false, ◌&&◌}
use mathlib.Core.List.{List, [], ◌∷◌}
use Prim.Native.Nat.{ℕ, suc, ◌+◌, ◌-◌, ◌<◌, ◌≤◌, ◌^◌}
use native.Mathlib.Omega.{arith}
use native.Mathlib.Numerals.{add-one}
use lib.IntN.{ℤ, pos}
use lib.ListN.{length, drop, get_or, drop_of_length-le}
use lib.Seq.{drop-cons}
use lib.Signed.{le_z, lt_z, mag}
use borrow.Author.Rules.{sfits_of}
use mir.Syntax.{w32}
use mir.Val.{SFits, hbits, to_z, of_z}
use mir.Facts.{to_z-of_z}
use Rattle.signed.proofs.Laws.{int}
use Rattle.host_records.specs.RecordNumbers.{number_at, list_from, all_from, none_negative, size_of}

-- a number read from the list is the number that the list holds
pub read_back : (numbers : List ℤ) (k : ℕ) → mag (number_at numbers k) < 2 ^ hbits w32
    → to_z w32 (of_z w32 (number_at numbers k)) ≡ number_at numbers k
read_back numbers k small = to_z-of_z {w = w32} (sfits_of {w = w32} {z = number_at numbers k} small)

pub size_read : (numbers : List ℤ) (k m : ℕ) → mag (number_at numbers k) < 2 ^ hbits w32 → mag (number_at numbers m) < 2 ^ hbits w32
    → size_of (to_z w32 (of_z w32 (number_at numbers k))) (to_z w32 (of_z w32 (number_at numbers m)))
    ≡ size_of (number_at numbers k) (number_at numbers m)
size_read numbers k m a b i = size_of (read_back numbers k a i) (read_back numbers m b i)

module _ (numbers : List ℤ) (i : ℕ) where
  pub none_negative_here : i < length numbers
      → none_negative (drop i numbers) ≡ (le_z (pos 0) (get_or numbers i (pos 0)) && none_negative (drop (i + 1) numbers))
  unfolding none_negative
  none_negative_here within = rw (drop-cons numbers i (pos 0) within, add-one i)

  pub none_negative_past : length numbers ≤ i → none_negative (drop i numbers) ≡ true
  unfolding none_negative
  none_negative_past past = rw (drop_of_length-le numbers {i = i} past)

-- the same by the test of the number that stands here
module _ (numbers : List ℤ) (i : ℕ) (within : i < length numbers) (fits : SFits w32 (get_or numbers i (pos 0))) where
  by_sign : {t : Bool} → lt_z (to_z w32 (of_z w32 (get_or numbers i (pos 0)))) (pos 0) ≡ t
      → lt_z (get_or numbers i (pos 0)) (pos 0) ≡ t
  by_sign test = sym (ap (λ (z : ℤ). lt_z z (pos 0)) (to_z-of_z fits)) ∙ test

  pub negative_here : lt_z (to_z w32 (of_z w32 (get_or numbers i (pos 0)))) (pos 0) ≡ true → none_negative (drop i numbers) ≡ false
  negative_here test =
      let sign = by_sign test in
      let negative : le_z (pos 0) (get_or numbers i (pos 0)) ≡ false = omega (arith, int) in
      none_negative_here numbers i within ∙ rw negative

  pub not_negative_here : lt_z (to_z w32 (of_z w32 (get_or numbers i (pos 0)))) (pos 0) ≡ false
      → none_negative (drop i numbers) ≡ none_negative (drop (i + 1) numbers)
  not_negative_here test =
      let sign = by_sign test in
      let positive : le_z (pos 0) (get_or numbers i (pos 0)) ≡ true = omega (arith, int) in
      none_negative_here numbers i within ∙ rw positive

-- ---- a walk over n things: those that are left after j
module _ (test : ℕ → Bool) (n j : ℕ) where
  pub all_from_here : j < n → all_from test j (n - j) ≡ (test j && all_from test (j + 1) (n - (j + 1)))
  unfolding all_from
  all_from_here within =
      let one : n - j ≡ suc (n - (j + 1)) = omega arith in
      ap (all_from test j) one ∙ rw (add-one j)

  pub all_from_past : n ≤ j → all_from test j (n - j) ≡ true
  unfolding all_from
  all_from_past past =
      let none : n - j ≡ 0 = omega arith in
      ap (all_from test j) none

module _ {A : Type 0} (f : ℕ → A) (n j : ℕ) where
  pub list_from_here : j < n → list_from f j (n - j) ≡ f j ∷ list_from f (j + 1) (n - (j + 1))
  unfolding list_from
  list_from_here within =
      let one : n - j ≡ suc (n - (j + 1)) = omega arith in
      ap (list_from f j) one ∙ rw (add-one j)

  pub list_from_past : n ≤ j → list_from f j (n - j) ≡ []
  unfolding list_from
  list_from_past past =
      let none : n - j ≡ 0 = omega arith in
      ap (list_from f j) none
