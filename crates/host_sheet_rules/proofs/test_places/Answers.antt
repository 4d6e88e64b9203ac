-- `host_sheet_rules::test_places` meets its contract: what is known of the places behind is known of one more, or the whole breaks
-- a rule. At the end it is known of all.
use Rattle.std.specs.Prelude.{Option, Some, None}
use mathlib.Core.Path.{◌≡◌, sym, ap, subst, ◌∙◌}
use mathlib.Core.Bool.{true, cond}
use mathlib.Core.List.{List}
use Prim.Native.Nat.{ℕ, ◌+◌, ◌-◌}
use native.Mathlib.Omega.{arith}
use borrow.Author.Rules.{rules}
use lib.IntN.{ℤ}
use mir.Syntax.{w32}
use mir.Val.{SFits, to_z, of_z}
use mir.Facts.{to_z-of_z}
use Rattle.sheet_layers.specs.declared.rows.LayerRows.{LayerRows}
use Rattle.sheet_layers.specs.LayerRows.{no_rows_overtake}
use Rattle.sheet_layers.specs.Layers.{layer_rows}
use Rattle.host_sheet_record.specs.SheetRecord.{place_numbers, layer_of}
use Rattle.host_sheet_record.proofs.Parts.{place_part}
use Rattle.host_sheet_place.specs.PlaceRules.{place_kept}
use Rattle.host_sheet_rules.specs.declared.PaintedRows.{PaintedRows}
use Rattle.host_sheet_rules.specs.declared.Asked.{Asked}
use Rattle.host_sheet_rules.specs.RecordRules.{rows_at, rows_from, places_tested, also_painted, asked_of}
use Rattle.sheet_layers.proofs.LayerRules.{found_kept}
use Rattle.host_sheet_rules.proofs.Walk.{WalkedTo, walked_none, walked_all, broken_here, overtaken_here, one_more_lem}
use Rattle.host_sheet_rules.proofs.test_places.Goals as goal

-- what is found of the place i by its numbers, and that of a place that keeps the rules
module _ (n : List ℤ) (i : ℕ) where
  found : {r : Option LayerRows} {numbers : List ℤ} → r ≡ cond (place_kept numbers) (Some (layer_rows (layer_of numbers))) None
      → numbers ≡ place_numbers n i → r ≡ cond (place_kept (place_numbers n i)) (Some (rows_at n i)) None
  found is part = is ∙ ap (λ (p : List ℤ). cond (place_kept p) (Some (layer_rows (layer_of p))) None) part

  kept : (rows : LayerRows) → Some rows ≡ cond (place_kept (place_numbers n i)) (Some (rows_at n i)) None
      → (place_kept (place_numbers n i) ≡ true) × (rows ≡ rows_at n i)
  kept rows is = found_kept (place_kept (place_numbers n i)) (rows_at n i) rows is

pub loop-place-init : goal.loop-place-init
loop-place-init c = walked_none c.args.numbers.now c.args.count c.args.layer (to_z w32 (of_z w32 c.args.y)) c.none-painted.result

pub returns-in_err-rows : goal.returns-in_err-rows
returns-in_err-rows c =
    let a = c.args in
    let i = c.loop-place.place - 1 in
    let some = c.loop-place-test.true in
    rw c.from_residual.ensures
    (broken_here a.numbers.now a.count a.layer a.y i c.loop-place.place (omega arith) (omega arith) (rows_at a.numbers.now i)
    (sym c.in_err-rows.was ∙ found a.numbers.now i c.place_rows.ensures (place_part a.numbers.now i)))

pub returns-then-not-in_order : goal.returns-then-not-in_order
returns-then-not-in_order c =
    let a = c.args in
    let i = c.loop-place.place - 1 in
    let some = c.loop-place-test.true in
    let is = kept a.numbers.now i c.in_ok-rows.rows (sym c.in_ok-rows.was ∙ found a.numbers.now i c.place_rows.ensures (place_part a.numbers.now i)) in
    let next : i + 1 ≡ c.loop-place.place = omega arith in
    overtaken_here a.numbers.now a.count a.layer a.y i c.loop-place.place next (omega arith)
    (subst (λ (k : ℕ). no_rows_overtake (rows_at a.numbers.now i) (rows_from a.numbers.now k (a.count - k)) ≡ c.in_order.result) next
    (ap (λ (r : LayerRows). no_rows_overtake r (rows_from a.numbers.now (i + 1) (a.count - (i + 1)))) (sym is.1) ∙ sym c.in_order.ensures)
    ∙ c.if-not-in_order.true)

pub loop-place-preserved : goal.loop-place-preserved
loop-place-preserved c =
    let a = c.args in
    let i = c.loop-place.place - 1 in
    let y = to_z w32 (of_z w32 a.y) in
    let some = c.loop-place-test.true in
    let is = kept a.numbers.now i c.in_ok-rows.rows (sym c.in_ok-rows.was ∙ found a.numbers.now i c.place_rows.ensures (place_part a.numbers.now i)) in
    let next : i + 1 ≡ c.loop-place.place = omega arith in
    let none =
    subst (λ (k : ℕ). no_rows_overtake (rows_at a.numbers.now i) (rows_from a.numbers.now k (a.count - k)) ≡ c.in_order.result) next
    (ap (λ (r : LayerRows). no_rows_overtake r (rows_from a.numbers.now (i + 1) (a.count - (i + 1)))) (sym is.1) ∙ sym c.in_order.ensures)
    ∙ c.if-not-in_order.false in
    let walked = one_more_lem a.numbers.now a.count a.layer y i c.loop-place.place next (omega arith) c.loop-place.painted c.loop-place.asked c.loop-place.invariant is.0 none in
    subst (λ (p : PaintedRows). WalkedTo a.numbers.now a.count a.layer y p c.and-asked.result i)
    (sym (c.and-painted.ensures ∙ ap (also_painted c.loop-place.painted) is.1))
    (subst (λ (q : Asked). WalkedTo a.numbers.now a.count a.layer y (also_painted c.loop-place.painted (rows_at a.numbers.now i)) q i)
    (sym (c.and-asked.ensures ∙ ap (λ (r : LayerRows). asked_of c.loop-place.asked r i a.layer y) is.1)) walked)

pub returns : goal.returns
returns c =
    let a = c.args in
    let none : c.loop-place.place ≡ 0 = omega arith in
    let fits : SFits w32 a.y = search rules in
    let all = subst (λ (i : ℕ). WalkedTo a.numbers.now a.count a.layer (to_z w32 (of_z w32 a.y)) c.loop-place.painted c.loop-place.asked i) none c.loop-place.invariant in
    walked_all a.numbers.now a.count a.layer (to_z w32 (of_z w32 a.y)) c.loop-place.painted c.loop-place.asked all
    ∙ ap (places_tested a.numbers.now a.count a.layer) (to_z-of_z fits)
