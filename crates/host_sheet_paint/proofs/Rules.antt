-- The rules of a sheet's numbers by its places: where the size and the count are within limits, the rules are kept if each
-- place holds a layer that keeps its own and the layers are in order.
-- Assumes nothing.
use Rattle.refusal.specs.Refusal.{passed}
use mathlib.Core.Path.{◌≡◌, refl, sym, ap, ap₂, ◌∙◌}
use mathlib.Core.Bool.{Bool, true, false, cond, ◌&&◌, true≢false}
use mathlib.Core.List.{List, [], ◌∷◌, map}
use Prim.Native.Nat.{ℕ, zero, suc, ◌<◌, ◌≤◌, min}
use native.Mathlib.Omega.{arith}
use lib.IntN.{ℤ, pos}
use lib.ListN.{length, take}
use lib.Signed.{le_z}
use Rattle.signed.specs.Signed.{floor0}
use Rattle.signed.proofs.Laws.{int}
use Rattle.geometry.specs.Limits.{max_layers}
use Rattle.canvas_size.specs.CanvasSize.{canvas_size_check}
use Rattle.canvas_size.proofs.Sides.{canvas_size_passed}
use Rattle.sheet_layers.specs.LayerRows.{rows_in_order}
use Rattle.book.specs.Sheet.{layer_keeps_rules, keeps_rules}
use Rattle.book.proofs.Tests.{and_true_parts}
use Rattle.drawing.specs.Drawing.{drawing}
use Rattle.sheet_layers.specs.declared.Layer.{Layer}
use Rattle.sheet_layers.specs.Layers.{layers_of, layer_rows}
use Rattle.sheet_layers.specs.Layers.{layer_of as layers_layer_of}
use Rattle.sheet_layers.proofs.LayerRules.{each_keeps, regroup, kept_by_parts}
use Rattle.sheet_checks.proofs.Places.{broken_count, kept_by_layers}
use Rattle.host_records.specs.RecordNumbers.{number_at, list_from, all_from, within, none_negative}
use Rattle.host_sheet_record.specs.SheetRecord.{canvas_width_at, canvas_height_at, count_at, sheet_length, place_numbers, is_layer, holds_records, layer_of, sheet_of}
use Rattle.host_sheet_record.proofs.Parts.{sixteen, count_of_records}
use Rattle.host_sheet_rules.specs.RecordRules.{rows_from, places_kept}

-- ---- lists made place by place
pub take_list_from : {A : Type 0} (f : ℕ → A) (k j m : ℕ) → k ≤ m → take k (list_from f j m) ≡ list_from f j k
unfolding list_from
take_list_from f zero j m few = refl
take_list_from f (suc k) j zero few = absurd (omega arith)
take_list_from f (suc k) j (suc m) few = ap (λ (l : List _). f j ∷ l) (take_list_from f k (suc j) m (omega arith))

pub map_list_from : {A B : Type 0} (g : A → B) (f : ℕ → A) (j n : ℕ) → map g (list_from f j n) ≡ list_from (λ k. g (f k)) j n
unfolding list_from
map_list_from g f j zero = refl
map_list_from g f j (suc n) = ap (λ (l : List _). g (f j) ∷ l) (map_list_from g f (suc j) n)

each_keeps_from : (f : ℕ → Layer) (j n : ℕ)
    → each_keeps (list_from f j n) ≡ all_from (λ k. layer_keeps_rules drawing (layers_layer_of (f k))) j n
unfolding each_keeps list_from all_from
each_keeps_from f j zero = refl
each_keeps_from f j (suc n) =
    ap (λ (t : Bool). layer_keeps_rules drawing (layers_layer_of (f j)) && t) (each_keeps_from f (suc j) n)

-- two tests of each place are one test of all and the other of all
all_both : (s t : ℕ → Bool) (j n : ℕ) → all_from (λ k. s k && t k) j n ≡ (all_from s j n && all_from t j n)
unfolding all_from
all_both s t j zero = refl
all_both s t j (suc n) =
    ap (λ (u : Bool). (s j && t j) && u) (all_both s t (suc j) n)
    ∙ regroup (s j) (t j) (all_from s (suc j) n) (all_from t (suc j) n)

-- the first three numbers
three_numbers : (n : List ℤ) → 3 ≤ length n
    → none_negative (take 3 n)
    ≡ (le_z (pos 0) (number_at n canvas_width_at) && (le_z (pos 0) (number_at n canvas_height_at) && (le_z (pos 0) (number_at n count_at) && true)))
unfolding none_negative
three_numbers [] few = absurd (omega arith)
three_numbers (a ∷ []) few = absurd (omega arith)
three_numbers (a ∷ b ∷ []) few = absurd (omega arith)
three_numbers (a ∷ b ∷ c ∷ n) few = refl

module _ (n : List ℤ) (long : length n ≡ sheet_length) where
  abbrev W : ℕ
  W = (sheet_of n).width

  abbrev H : ℕ
  H = (sheet_of n).height

  abbrev count : ℕ
  count = floor0 (number_at n count_at)

  -- the layer in each place
  abbrev place : ℕ → Layer
  place k = layer_of (place_numbers n k)

  abbrev pub rules_kept : Bool
  rules_kept = keeps_rules drawing W H (layers_of (sheet_of n).count (sheet_of n).layers)

  pub places_are : (sheet_of n).layers ≡ list_from place 0 max_layers
  unfolding sheet_of
  places_are = refl

  -- numbers that hold no records say one layer too many
  count_of_none : holds_records n ≡ false → (sheet_of n).count ≡ suc max_layers
  unfolding sheet_of
  count_of_none lacking = ap (λ (t : Bool). cond t (floor0 (number_at n count_at)) (suc max_layers)) lacking

  -- and those that do say a count that is not negative
  count_sign : holds_records n ≡ true → le_z (pos 0) (number_at n count_at) ≡ true
  unfolding holds_records
  count_sign holds =
      let k0 : Bool = le_z (pos 0) (number_at n canvas_width_at) in
      let k1 : Bool = le_z (pos 0) (number_at n canvas_height_at) in
      let k2 : Bool = le_z (pos 0) (number_at n count_at) in
      let sides = (and_true_parts (none_negative (take 3 n))
      (all_from (λ k. is_layer (place_numbers n k)) 0 (min (floor0 (number_at n count_at)) max_layers)) holds).0 in
      let first = and_true_parts k0 (k1 && (k2 && true)) (sym (three_numbers n (omega arith)) ∙ sides) in
      let second = and_true_parts k1 (k2 && true) first.1 in
      (and_true_parts k2 true second.1).0

  -- a count that is negative or above the limit
  pub broken_by_count : within (pos 0) (pos max_layers) (number_at n count_at) ≡ false → rules_kept ≡ false
  broken_by_count beyond =
      broken_count W H (sheet_of n).count (sheet_of n).layers (sixteen n) (by_records (holds_records n) refl)
    where
      above : le_z (pos 0) (number_at n count_at) ≡ true → le_z (number_at n count_at) (pos max_layers) ≡ false
      above sign = sym (ap (λ (t : Bool). t && le_z (number_at n count_at) (pos max_layers)) sign) ∙ beyond

      by_records : (t : Bool) → holds_records n ≡ t → max_layers < (sheet_of n).count
      by_records true holds =
          let high = above (count_sign holds) in
          omega (arith, int, count_of_records n holds)
      by_records false lacking = omega (arith, count_of_none lacking)

  module _ (size : canvas_size_check W H ≡ passed) (few : within (pos 0) (pos max_layers) (number_at n count_at) ≡ true) where
    pub count_few : count ≤ max_layers
    count_few =
        let parts = and_true_parts (le_z (pos 0) (number_at n count_at)) (le_z (number_at n count_at) (pos max_layers)) few in
        omega (arith, int)

    abbrev layers : Bool
    layers = all_from (λ k. is_layer (place_numbers n k)) 0 count

    records_by_layers : holds_records n ≡ layers
    unfolding holds_records sheet_of
    records_by_layers =
        let sides = canvas_size_passed W H size in
        let width = sides.width_least in
        let height = sides.height_least in
        let parts = and_true_parts (le_z (pos 0) (number_at n count_at)) (le_z (number_at n count_at) (pos max_layers)) few in
        let wide : le_z (pos 0) (number_at n canvas_width_at) ≡ true = omega (arith, int) in
        let high : le_z (pos 0) (number_at n canvas_height_at) ≡ true = omega (arith, int) in
        let used : min count max_layers ≡ count = omega (arith, count_few) in
        rw (three_numbers n (omega arith), wide, high, parts.0) (ap (all_from (λ k. is_layer (place_numbers n k)) 0) used)

    -- the rules, where all places are layers'
    rules_of_layers : layers ≡ true → rules_kept ≡ (places_kept n 0 count && rows_in_order (rows_from n 0 count))
    rules_of_layers all =
        let saying = count_of_records n (records_by_layers ∙ all) in
        let first = ap (take count) places_are ∙ take_list_from place count 0 max_layers count_few in
        ap (λ (k : ℕ). keeps_rules drawing W H (layers_of k (sheet_of n).layers)) saying
        ∙ sym (kept_by_layers W H count (sheet_of n).layers (sixteen n) size count_few)
        ∙ kept_by_parts (take count (sheet_of n).layers)
        ∙ ap (λ (l : List Layer). each_keeps l && rows_in_order (map layer_rows l)) first
        ∙ ap₂ ◌&&◌ (each_keeps_from place 0 count ∙ both) (ap rows_in_order (map_list_from layer_rows place 0 count))
      where
        keeps : ℕ → Bool
        keeps k = layer_keeps_rules drawing (layers_layer_of (place k))

        both : all_from keeps 0 count ≡ places_kept n 0 count
        both =
            sym (all_both (λ k. is_layer (place_numbers n k)) keeps 0 count ∙ ap (λ (t : Bool). t && all_from keeps 0 count) all)

    pub rules_by_places : rules_kept ≡ (places_kept n 0 count && rows_in_order (rows_from n 0 count))
    rules_by_places = by_layers layers refl
      where
        keeps : ℕ → Bool
        keeps k = layer_keeps_rules drawing (layers_layer_of (place k))

        by_layers : (t : Bool) → layers ≡ t → rules_kept ≡ (places_kept n 0 count && rows_in_order (rows_from n 0 count))
        by_layers true all = rules_of_layers all
        by_layers false lacking =
            let none : places_kept n 0 count ≡ false =
            all_both (λ k. is_layer (place_numbers n k)) keeps 0 count ∙ ap (λ (t : Bool). t && all_from keeps 0 count) lacking in
            broken_count W H (sheet_of n).count (sheet_of n).layers (sixteen n)
            (omega (arith, count_of_none (records_by_layers ∙ lacking)))
            ∙ sym (ap (λ (t : Bool). t && rows_in_order (rows_from n 0 count)) none)

    -- a sheet that keeps the rules has the layers that it says
    pub count_kept : rules_kept ≡ true → (sheet_of n).count ≡ count
    count_kept rules = by_layers layers refl
      where
        by_layers : (t : Bool) → layers ≡ t → (sheet_of n).count ≡ count
        by_layers true all = count_of_records n (records_by_layers ∙ all)
        by_layers false lacking =
            let many : max_layers < (sheet_of n).count = omega (arith, count_of_none (records_by_layers ∙ lacking)) in
            absurd (true≢false (sym rules ∙ broken_count W H (sheet_of n).count (sheet_of n).layers (sixteen n) many))
