-- The answers to a paint call on a sheet's numbers that keep the rules, by what is asked of the layers.
-- Assumes nothing.
use Rattle.std.specs.Prelude.{Some, None}
use Rattle.std.specs.Prelude.{Ok, Err}
use mathlib.Core.Path.{◌≡◌, refl, sym, ap, ap₂, ◌∙◌}
use mathlib.Core.Bool.{Bool, true, false, cond, ◌&&◌, ◌||◌}
use mathlib.Core.List.{List, map}
use Prim.Native.Nat.{ℕ, zero, suc, ◌+◌, ◌<◌, ◌≤◌}
use native.Mathlib.Omega.{arith}
use borrow.Author.Tests.{leb-true, leb-false, lt-leb, lt-ltb, le-ltb, eq-eqb, ne_eqb}
use lib.Dec.{leb}
use lib.IntN.{ℤ}
use lib.ListN.{length, take, get_or}
use lib.Signed.{le_z, lt_z}
use Rattle.geometry.specs.Limits.{max_layers}
use Rattle.signed.proofs.Laws.{int}
use Rattle.refusal.specs.declared.Refusal.TheVariants.{RowOwed}
use Rattle.refusal.specs.Refusal.{refuse_if, Checked, passed}
use Rattle.canvas_size.specs.CanvasSize.{canvas_length_check}
use Rattle.sheet_layers.specs.declared.rows.LayerRows.{LayerRows}
use Rattle.sheet_layers.specs.LayerRows.{rows_owe, some_rows_owe, rows_in_order}
use Rattle.book.specs.Book.{paint as call_paint}
use Rattle.sheet_layers.specs.declared.Layer.{Layer}
use Rattle.sheet_layers.specs.Layers.{blank_layer, layer_rows}
use Rattle.sheet_checks.proofs.Answers.{paint_length, paint_no_layer, paint_finished, paint_owed, paint_free}
use Rattle.sheet.specs.Sheet.{sheet_answer}
use Rattle.host_records.specs.RecordNumbers.{list_from}
use Rattle.host_sheet_record.specs.SheetRecord.{sheet_length, place_numbers, layer_of, sheet_of}
use Rattle.host_sheet_record.proofs.Parts.{sixteen}
use Rattle.host_sheet_record.proofs.ReadBack.{layer_in_place}
use Rattle.host_sheet_rules.specs.declared.Asked.{Asked}
use Rattle.host_sheet_rules.specs.RecordRules.{rows_at, rows_from, places_kept, asked_from, places_tested}
use Rattle.host_sheet_paint.specs.RecordPaint.{next_of, asked_check}
use Rattle.host_sheet_paint.proofs.Rules.{rules_kept, take_list_from, map_list_from, places_are}

-- ---- what is asked of all places, by the layer's own and the earlier ones
module _ (n : List ℤ) (layer : ℕ) (y : ℤ) where
  abbrev asked : ℕ → ℕ → Asked
  asked j m = asked_from n layer y j m

  -- behind the layer nothing is
  none_left : (m j : ℕ) → layer < j → (asked j m).left ≡ false
  unfolding asked_from
  none_left zero j behind = refl
  none_left (suc m) j behind = rw (ne_eqb j layer (λ same. omega arith)) (none_left m (suc j) (omega arith))

  none_owed : (m j : ℕ) → layer ≤ j → (asked j m).owed ≡ false
  unfolding asked_from
  none_owed zero j behind = refl
  none_owed (suc m) j behind = rw (le-ltb j layer behind) (none_owed m (suc j) (omega arith))

  left_at : (d m j : ℕ) → layer ≡ j + d → d < m → (asked j m).left ≡ lt_z (rows_at n layer).next (rows_at n layer).end
  unfolding asked_from
  left_at d zero j at within = absurd (omega arith)
  left_at zero (suc m) j at within =
      let here : j ≡ layer = omega arith in
      rw (eq-eqb j layer here, none_left m (suc j) (omega arith))
      (or_false (lt_z (rows_at n j).next (rows_at n j).end) ∙ ap (λ (k : ℕ). lt_z (rows_at n k).next (rows_at n k).end) here)
    where
      or_false : (t : Bool) → (t || false) ≡ t
      or_false true = refl
      or_false false = refl
  left_at (suc d) (suc m) j at within =
      rw (ne_eqb j layer (λ same. omega arith)) (left_at d m (suc j) (omega arith) (omega arith))

  owed_before : (d m j : ℕ) → layer ≡ j + d → d ≤ m → (asked j m).owed ≡ some_rows_owe (rows_from n j d) y
  unfolding asked_from some_rows_owe list_from
  owed_before zero m j at within = none_owed m j (omega arith)
  owed_before (suc d) zero j at within = absurd (omega arith)
  owed_before (suc d) (suc m) j at within =
      rw (lt-ltb j layer (omega arith))
      (ap (λ (t : Bool). rows_owe (rows_at n j) y || t) (owed_before d m (suc j) (omega arith) (omega arith)))

-- ---- what the test of the places found
module _ (n : List ℤ) (count layer : ℕ) (y : ℤ) where
  abbrev keeps : Bool
  keeps = places_kept n 0 count && rows_in_order (rows_from n 0 count)

  pub tested_broken : None ≡ places_tested n count layer y → keeps ≡ false
  unfolding places_tested
  tested_broken e = by_test keeps e
    where
      by_test : (t : Bool)
          → None ≡ cond t (Some (asked_from n layer y 0 count)) None → t ≡ false
      by_test true e = let z : ◌≡◌ {A = ℕ} 0 1 = cc in absurd (omega arith)
      by_test false e = refl

  pub tested_kept : (a : Asked) → Some a ≡ places_tested n count layer y
      → (keeps ≡ true) × (a ≡ asked_from n layer y 0 count)
  unfolding places_tested
  tested_kept a e = by_test keeps e
    where
      by_test : (t : Bool)
          → Some a ≡ cond t (Some (asked_from n layer y 0 count)) None
          → (t ≡ true) × (a ≡ asked_from n layer y 0 count)
      by_test true e = (refl, cc)
      by_test false e = let z : ◌≡◌ {A = ℕ} 0 1 = cc in absurd (omega arith)

-- ---- the answers
module _ (n : List ℤ) (long : length n ≡ sheet_length) (count layer : ℕ) (canvas : List ℕ) (rules : rules_kept n long ≡ true)
    (says : (sheet_of n).count ≡ count) (few : count ≤ max_layers) where
  abbrev W : ℕ
  W = (sheet_of n).width

  abbrev H : ℕ
  H = (sheet_of n).height

  abbrev answered : Checked
  answered = sheet_answer (sheet_of n) canvas (call_paint layer)

  abbrev found : Asked
  found = asked_from n layer (next_of n layer) 0 count

  pub answer_by_asked : asked_check W H (length canvas) count layer found ≡ answered
  unfolding asked_check
  answer_by_asked = by_length (canvas_length_check W H (length canvas)) refl
    where
      own : layer < count → rows_at n layer ≡ layer_rows (get_or (sheet_of n).layers layer blank_layer)
      own within = ap layer_rows (sym (layer_in_place n layer (omega arith)))

      earlier : layer < count → rows_from n 0 layer ≡ map layer_rows (take layer (sheet_of n).layers)
      earlier within =
          sym (ap (λ (l : List Layer). map layer_rows (take layer l)) (places_are n long)
          ∙ ap (map layer_rows) (take_list_from (λ k. layer_of (place_numbers n k)) layer 0 max_layers (omega arith))
          ∙ map_list_from layer_rows (λ k. layer_of (place_numbers n k)) 0 layer)

      row : layer < count → next_of n layer ≡ (rows_at n layer).next
      row within = rw (lt-ltb layer max_layers (omega arith))

      by_owed : canvas_length_check W H (length canvas) ≡ passed → (within : layer < count) → found.left ≡ true → (t : Bool)
          → found.owed ≡ t
          → asked_check W H (length canvas) count layer found ≡ answered
      by_owed size within is_left_lem t e =
          let whole : layer ≡ 0 + layer = omega arith in
          let left = sym (left_at n layer (next_of n layer) layer count 0 whole within) ∙ is_left_lem in
          let unfinished : le_z (rows_at n layer).end (rows_at n layer).next ≡ false = omega (arith, int) in
          let here : layer < (sheet_of n).count = omega arith in
          let going = sym (ap (λ (r : LayerRows). le_z r.end r.next) (own within)) ∙ unfinished in
          let owed = sym (ap₂ some_rows_owe (earlier within) (row within ∙ ap (λ (r : LayerRows). r.next) (own within)))
          ∙ sym (owed_before n layer (next_of n layer) layer count 0 whole (omega arith)) ∙ e in
          rw (size, lt-leb count layer within, is_left_lem, e) (by_test t owed going here)
        where
          by_test : (t : Bool)
              → some_rows_owe (map layer_rows (take layer (sheet_of n).layers)) (layer_rows (get_or (sheet_of n).layers layer blank_layer)).next
              ≡ t
              → le_z (layer_rows (get_or (sheet_of n).layers layer blank_layer)).end
              (layer_rows (get_or (sheet_of n).layers layer blank_layer)).next ≡ false
              → layer < (sheet_of n).count → refuse_if t RowOwed ≡ answered
          by_test true owed going here =
              sym (paint_owed W H (sheet_of n).count (sheet_of n).layers (sixteen n) layer canvas rules size here going owed)
          by_test false owed going here =
              sym (paint_free W H (sheet_of n).count (sheet_of n).layers (sixteen n) layer canvas rules size here going owed)

      by_left : canvas_length_check W H (length canvas) ≡ passed → (within : layer < count) → (t : Bool) → found.left ≡ t
          → asked_check W H (length canvas) count layer found ≡ answered
      by_left size within true e = by_owed size within e found.owed refl
      by_left size within false e =
          let whole : layer ≡ 0 + layer = omega arith in
          let none = sym (left_at n layer (next_of n layer) layer count 0 whole within) ∙ e in
          let finished : le_z (rows_at n layer).end (rows_at n layer).next ≡ true = omega (arith, int) in
          let here : layer < (sheet_of n).count = omega arith in
          rw (size, lt-leb count layer within, e)
          (sym (paint_finished W H (sheet_of n).count (sheet_of n).layers (sixteen n) layer canvas rules size here
          (sym (ap (λ (r : LayerRows). le_z r.end r.next) (own within)) ∙ finished)))

      by_count : canvas_length_check W H (length canvas) ≡ passed → (t : Bool) → leb count layer ≡ t
          → asked_check W H (length canvas) count layer found ≡ answered
      by_count size true e =
          rw (size, e)
          (sym (paint_no_layer W H (sheet_of n).count (sheet_of n).layers (sixteen n) layer canvas rules size
          (omega (arith, leb-true count layer e))))
      by_count size false e = by_left size (leb-false count layer e) found.left refl

      by_length : (check : Checked) → canvas_length_check W H (length canvas) ≡ check
          → asked_check W H (length canvas) count layer found ≡ answered
      by_length (Err refusal) e =
          rw e (sym (paint_length W H (sheet_of n).count (sheet_of n).layers (sixteen n) layer canvas rules refusal e))
      by_length (Ok _) e = by_count e (leb count layer) refl
