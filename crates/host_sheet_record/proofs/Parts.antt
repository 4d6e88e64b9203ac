-- The part of a list that is lent for a place, and what all places make.
-- Assumes nothing.
use mathlib.Core.Path.{◌≡◌, refl, ap}
use mathlib.Core.Bool.{Bool, true, false, cond}
use mathlib.Core.List.{List}
use Prim.Native.Nat.{ℕ, suc, ◌+◌, ◌-◌, ◌<◌, ◌≤◌}
use native.Mathlib.Omega.{arith}
use native.Mathlib.Numerals.{add-one}
use borrow.Author.Tests.{eqb-true}
use lib.IntN.{ℤ}
use lib.ListN.{length, take, drop, set, replicate, length-take, length-drop}
use lib.Seq.{sets}
use Rattle.signed.specs.Signed.{floor0}
use Rattle.geometry.specs.Limits.{max_layers}
use Rattle.host_records.specs.RecordNumbers.{number_at, list_from}
use Rattle.host_records.proofs.Walks.{list_from_here, list_from_past}
use Rattle.sheet_layers.specs.declared.Layer.{Layer}
use Rattle.host_sheet_record.specs.SheetRecord.{layer_length, count_at, sheet_length, place_at, place_numbers, is_sheet, holds_records, count_of, sheet_of}

module _ (numbers : List ℤ) (j : ℕ) where
  pub place_part : take (place_at j + layer_length - place_at j) (drop (place_at j) numbers) ≡ place_numbers numbers j
  place_part =
      let long : place_at j + layer_length - place_at j ≡ layer_length = omega arith in
      ap (λ (n : ℕ). take n (drop (place_at j) numbers)) long

  pub place_part_length : length numbers ≡ sheet_length → j < max_layers
      → length (take (place_at j + layer_length - place_at j) (drop (place_at j) numbers)) ≡ layer_length
  place_part_length long within = simp (length-take, length-drop) (omega arith)

-- ---- 16 places, put one after another: those that are left make the whole
module _ (f : ℕ → Layer) where
  pub put_place : (places : List Layer) (j : ℕ) → j < max_layers
      → sets places j (list_from f j (max_layers - j)) ≡ sets (set places j (f j)) (j + 1) (list_from f (j + 1) (max_layers - (j + 1)))
  put_place places j within = rw (list_from_here f max_layers j within, add-one j)

  pub all_put : (places : List Layer) (j : ℕ) → max_layers ≤ j → sets places j (list_from f j (max_layers - j)) ≡ places
  all_put places j past = rw (list_from_past f max_layers j past)

  pub whole : (blank : Layer) → sets (replicate max_layers blank) 0 (list_from f 0 max_layers) ≡ list_from f 0 max_layers
  unfolding list_from
  whole blank = refl

-- ---- numbers that are a sheet have its length, and what they are has 16 places
pub sheet_length_lem : (numbers : List ℤ) → is_sheet numbers ≡ true → length numbers ≡ sheet_length
sheet_length_lem numbers is = eqb-true (length numbers) sheet_length is

pub sixteen : (numbers : List ℤ) → length (sheet_of numbers).layers ≡ max_layers
unfolding sheet_of list_from
sixteen numbers = refl

-- ---- numbers that say 16 layers or fewer hold records
module _ (numbers : List ℤ) where
  pub records_of_few : (sheet_of numbers).count ≤ max_layers → holds_records numbers ≡ true
  unfolding sheet_of
  records_of_few few = by (holds_records numbers) refl
    where
      by : (t : Bool) → holds_records numbers ≡ t → holds_records numbers ≡ true
      by true holds = holds
      by false lacking =
          let many : count_of numbers ≡ suc max_layers = ap
          (λ (t : Bool). cond t (floor0 (number_at numbers count_at)) (suc max_layers)) lacking in
          absurd (omega arith)

  pub count_of_records : holds_records numbers ≡ true → (sheet_of numbers).count ≡ floor0 (number_at numbers count_at)
  unfolding sheet_of
  count_of_records holds = ap (λ (t : Bool). cond t (floor0 (number_at numbers count_at)) (suc max_layers)) holds
