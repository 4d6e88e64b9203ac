-- The walk over the places from the last to the first: what is known of the places behind, one place more, and the end.
-- Assumes nothing.
use Rattle.std.specs.Prelude.{Some, None}
use mathlib.Core.Path.{◌≡◌, refl, sym, ap, subst, ◌∙◌}
use mathlib.Core.Bool.{true, false, cond, false≢true}
use mathlib.Core.List.{List, ◌∷◌}
use Prim.Native.Nat.{ℕ, zero, suc, ◌+◌, ◌-◌, ◌<◌}
use native.Mathlib.Omega.{arith}
use lib.IntN.{ℤ}
use Rattle.sheet_layers.specs.declared.rows.LayerRows.{LayerRows}
use Rattle.sheet_layers.specs.LayerRows.{no_rows_overtake, rows_in_order}
use Rattle.sheet_layers.proofs.RowTests.{and-false}
use Rattle.book.proofs.Tests.{and_true_parts, and_true_of, false_unless}
use Rattle.host_records.specs.RecordNumbers.{list_from, all_from}
use Rattle.sheet_layers.proofs.LayerRules.{found_broken}
use Rattle.host_records.proofs.Walks.{list_from_here, all_from_here}
use Rattle.host_sheet_record.specs.SheetRecord.{place_numbers}
use Rattle.host_sheet_place.specs.PlaceRules.{place_kept}
use Rattle.host_sheet_record.proofs.ReadBack.{each_of_all}
use Rattle.host_sheet_rules.specs.declared.PaintedRows.{PaintedRows}
use Rattle.host_sheet_rules.specs.declared.Asked.{Asked}
use Rattle.host_sheet_rules.specs.RecordRules.{rows_at, rows_from, places_kept, also_painted, KeepTo, asked_of, asked_from, places_tested}
use Rattle.host_sheet_rules.proofs.Painted.{keep_more}

-- rows in order are in order from any place on
order_from : (f : ℕ → LayerRows) (k j n : ℕ) → rows_in_order (list_from f j (k + n)) ≡ true
    → rows_in_order (list_from f (j + k) n) ≡ true
unfolding rows_in_order list_from
order_from f zero j n order =
    let many : 0 + n ≡ n = omega arith in
    let from : j ≡ j + 0 = omega arith in
    subst (λ (i : ℕ). rows_in_order (list_from f i n) ≡ true) from
    (subst (λ (m : ℕ). rows_in_order (list_from f j m) ≡ true) many order)
order_from f (suc k) j n order =
    let many : suc k + n ≡ suc (k + n) = omega arith in
    let from : suc j + k ≡ j + suc k = omega arith in
    let whole = subst (λ (m : ℕ). rows_in_order (list_from f j m) ≡ true) many order in
    subst (λ (i : ℕ). rows_in_order (list_from f i n) ≡ true) from
    (order_from f k (suc j) n
    (and_true_parts (no_rows_overtake (f j) (list_from f (suc j) (k + n))) (rows_in_order (list_from f (suc j) (k + n))) whole).1)

module _ (n : List ℤ) (count layer : ℕ) (y : ℤ) where
  -- how many places there are from one on
  abbrev left : ℕ → ℕ
  left i = count - i

  -- The places from i on keep their own rules and are in order; the rows that they have painted and what is asked of them are
  -- known.
  pub record WalkedTo (painted : PaintedRows) (asked : Asked) (i : ℕ) : Type 0 where
    pub kept : places_kept n i (left i) ≡ true
    pub order : rows_in_order (rows_from n i (left i)) ≡ true
    pub painted_are : KeepTo painted (rows_from n i (left i))
    pub asked_is : asked ≡ asked_from n layer y i (left i)

  -- behind the last place nothing is known
  pub walked_none : (painted : PaintedRows) → WalkedTo painted (record { left = false; owed = false }) count
  unfolding rows_in_order KeepTo asked_from all_from list_from
  walked_none painted =
      let none : 0 ≡ left count = omega arith in
      record {
        kept = subst (λ (m : ℕ). places_kept n count m ≡ true) none refl;
        order = subst (λ (m : ℕ). rows_in_order (rows_from n count m) ≡ true) none refl;
        painted_are = subst (λ (m : ℕ). KeepTo painted (rows_from n count m)) none refl;
        asked_is = ap (asked_from n layer y count) none;
      }

  -- all places are walked over
  pub walked_all : (painted : PaintedRows) (asked : Asked) → WalkedTo painted asked 0
      → Some asked ≡ places_tested n count layer y
  unfolding places_tested
  walked_all painted asked w =
      let all : left 0 ≡ count = omega arith in
      let kept = subst (λ (m : ℕ). places_kept n 0 m ≡ true) all w.kept in
      let order = subst (λ (m : ℕ). rows_in_order (rows_from n 0 m) ≡ true) all w.order in
      rw (kept, order) (ap Some (w.asked_is ∙ ap (asked_from n layer y 0) all))

  module _ (i next : ℕ) (step : i + 1 ≡ next) (here : i < count) where
    -- a place that breaks a rule of its own
    pub broken_here : (r : LayerRows)
        → None ≡ cond (place_kept (place_numbers n i)) (Some r) None
        → None ≡ places_tested n count layer y
    unfolding places_tested
    broken_here r found =
        let broken = found_broken (place_kept (place_numbers n i)) r found in
        let none : places_kept n 0 count ≡ false =
        false_unless (places_kept n 0 count)
        (λ all. false≢true
        (sym broken ∙ each_of_all (λ k. place_kept (place_numbers n k)) count 0 i (omega arith) (omega arith) all)) in
        rw none

    rows_here : rows_from n i (left i) ≡ rows_at n i ∷ rows_from n next (left next)
    rows_here = list_from_here (rows_at n) count i here ∙ ap (λ (k : ℕ). rows_at n i ∷ rows_from n k (left k)) step

    -- one that is overtaken
    pub overtaken_here : no_rows_overtake (rows_at n i) (rows_from n next (left next)) ≡ false
        → None ≡ places_tested n count layer y
    unfolding places_tested rows_in_order
    overtaken_here overtaken =
        let none : rows_in_order (rows_from n 0 count) ≡ false = false_unless (rows_in_order (rows_from n 0 count))
        (λ order. false≢true (sym overtaken ∙ first order)) in
        rw (none, and-false (places_kept n 0 count))
      where
        first : rows_in_order (rows_from n 0 count) ≡ true → no_rows_overtake (rows_at n i) (rows_from n next (left next)) ≡ true
        first order =
            let parts : i + left i ≡ count = omega arith in
            let from : 0 + i ≡ i = omega arith in
            let at_i = order_from (rows_at n) i 0 (left i)
            (subst (λ (m : ℕ). rows_in_order (rows_from n 0 m) ≡ true) (sym parts) order) in
            let here = sym (ap rows_in_order rows_here)
            ∙ subst (λ (j : ℕ). rows_in_order (rows_from n j (left i)) ≡ true) from at_i in
            (and_true_parts (no_rows_overtake (rows_at n i) (rows_from n next (left next)))
            (rows_in_order (rows_from n next (left next))) here).0

    -- one that keeps its rules and is not overtaken is taken in
    pub one_more_lem : (painted : PaintedRows) (asked : Asked) → WalkedTo painted asked next → place_kept (place_numbers n i) ≡ true
        → no_rows_overtake (rows_at n i) (rows_from n next (left next)) ≡ true
        → WalkedTo (also_painted painted (rows_at n i)) (asked_of asked (rows_at n i) i layer y) i
    unfolding rows_in_order asked_from
    one_more_lem painted asked w kept none =
        let after : left i ≡ suc (left next) = omega arith in
        let following : suc i ≡ next = omega arith in
        record {
          kept =
              all_from_here (λ k. place_kept (place_numbers n k)) count i here
              ∙ and_true_of kept (subst (λ (k : ℕ). places_kept n k (left k) ≡ true) (sym step) w.kept);
          order = ap rows_in_order rows_here ∙ and_true_of none w.order;
          painted_are =
              subst (KeepTo (also_painted painted (rows_at n i))) (sym rows_here)
              (keep_more painted (rows_at n i) (rows_from n next (left next)) w.painted_are);
          asked_is =
              ap (λ (a : Asked). asked_of a (rows_at n i) i layer y)
              (w.asked_is ∙ ap (λ (k : ℕ). asked_from n layer y k (left next)) (sym following))
              ∙ sym (ap (asked_from n layer y i) after);
        }
