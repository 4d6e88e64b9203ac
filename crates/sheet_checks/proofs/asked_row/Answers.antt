-- `sheet_checks::asked_row` meets its contract: the tests made are those of the answer, in the table's order, with the rows that
-- the test of the rules found.
use mathlib.Core.Path.{◌≡◌, sym, ap, ap₂, subst, ◌∙◌}
use mathlib.Core.Bool.{Bool, true}
use mathlib.Core.List.{List, map}
use Prim.Native.Nat.{ℕ, ◌<◌, ◌≤◌}
use native.Mathlib.Omega.{arith}
use lib.ListN.{length, take, get_or}
use lib.Signed.{le_z}
use mir.Syntax.{w32}
use mir.Val.{to_z, of_z}
use mir.Facts.{to_z-of_z}
use Rattle.std.specs.Prelude.{Option, Some, IfSome, is_some}
use Rattle.std.specs.Result.{result_ok}
use Rattle.std.proofs.lemmas.Result.{err_from_is_err_and}
use Rattle.refusal.proofs.Checks.{lacking_refused}
use Rattle.canvas_size.specs.CanvasSize.{canvas_length_check}
use Rattle.book.specs.Sheet.{keeps_rules}
use Rattle.drawing.specs.Drawing.{drawing}
use Rattle.sheet_layers.specs.declared.Layer.{Layer}
use Rattle.sheet_layers.specs.declared.rows.LayerRows.{LayerRows}
use Rattle.sheet_layers.specs.LayerRows.{some_rows_owe}
use Rattle.sheet_layers.specs.Layers.{blank_layer, layers_of, layer_rows}
use Rattle.sheet_layers.proofs.RowTests.{no_rows, RowsFit, le_held}
use Rattle.sheet_checks.proofs.Places.{kept_few, kept_layer}
use Rattle.sheet_checks.proofs.Answers.{paint_broken, paint_length, paint_no_layer, paint_finished, paint_owed, paint_free, rows_at, rows_before}
use Rattle.sheet_checks.proofs.asked_row.Goals as goal

-- the rules are kept where rows were found, and these are the layers' rows
module _ (W H count : ℕ) (places : List Layer) (long : length places ≡ 16) {tested : Option (List LayerRows)} {rows : List LayerRows}
    (kept_value : is_some tested ≡ keeps_rules drawing W H (layers_of count places))
    (rows_value : IfSome tested (λ found. take count found ≡ map layer_rows (take count places))) (told : tested ≡ Some rows) where
  rules : keeps_rules drawing W H (layers_of count places) ≡ true
  rules = sym kept_value ∙ ap is_some told

  few : count ≤ 16
  few = kept_few W H count places long rules

  rows_are : take count rows ≡ map layer_rows (take count places)
  rows_are = subst (λ (o : Option (List LayerRows)). IfSome o (λ found. take count found ≡ map layer_rows (take count places))) told rows_value

  -- the layer asked for, and its rows as they were found
  module _ (i : ℕ) (here : i < count) where
    abbrev layer : Layer
    layer = get_or places i blank_layer

    abbrev own : LayerRows
    own = get_or rows i no_rows

    own_is : own ≡ layer_rows layer
    own_is = rows_at count i here rows places rows_are (omega (arith, few, long))

    own_fits : RowsFit own
    own_fits =
        let within = kept_layer W H count places long rules i here in
        subst RowsFit (sym own_is) within.rows

    -- whether it has a row left is tested as the definition does
    by_end : {t : Bool} → le_z (to_z w32 (of_z w32 own.end)) (to_z w32 (of_z w32 own.next)) ≡ t
        → le_z (layer_rows layer).end (layer_rows layer).next ≡ t
    by_end test = sym (ap (λ (r : LayerRows). le_z r.end r.next) own_is) ∙ le_held own_fits.end own_fits.next test

    -- whether an earlier layer owes the row is what was asked
    owed : {t : Bool} → t ≡ some_rows_owe (take i rows) (to_z w32 (of_z w32 own.next))
        → some_rows_owe (map layer_rows (take i places)) (layer_rows layer).next ≡ t
    owed asked =
        sym (asked ∙ ap₂ some_rows_owe (rows_before count i here rows places rows_are)
        (to_z-of_z own_fits.next ∙ ap (λ (r : LayerRows). r.next) own_is))

-- 7
pub returns-in_err-rows-clause-by_index : goal.returns-in_err-rows-clause-by_index
returns-in_err-rows-clause-by_index c canvas long =
    let a = c.args in
    let lacking = lacking_refused _ (sym c.ok_or.ensures.value ∙ c.in_err-rows.was) in
    let p = err_from_is_err_and c.from_residual.result c.from_residual.ensures.1 in
    rw (p.1, p.2, lacking.1)
    (sym (paint_broken a.size.width a.size.height a.count a.places (omega arith) a.layer canvas (sym c.test_rules.ensures.kept_value ∙ ap is_some lacking.0)))

-- 8
pub returns-in_err-check_length-clause-by_index : goal.returns-in_err-check_length-clause-by_index
returns-in_err-check_length-clause-by_index c canvas long =
    let a = c.args in
    let told = c.ok_or.ensures.ok_part ∙ ap result_ok c.in_ok-rows.was in
    let kept = rules a.size.width a.size.height a.count a.places (omega arith) c.test_rules.ensures.kept_value c.test_rules.ensures.rows_value told in
    let p = err_from_is_err_and c.from_residual-in_err-check_length.result c.from_residual-in_err-check_length.ensures.1 in
    rw (p.1, p.2)
    (sym (paint_length a.size.width a.size.height a.count a.places (omega arith) a.layer canvas kept _
    (ap (canvas_length_check a.size.width a.size.height) long ∙ sym c.check_length.ensures ∙ c.in_err-check_length.was)))

-- 10
pub returns-then-count-layer-clause-by_index : goal.returns-then-count-layer-clause-by_index
returns-then-count-layer-clause-by_index c canvas long =
    let a = c.args in
    let told = c.ok_or.ensures.ok_part ∙ ap result_ok c.in_ok-rows.was in
    let kept = rules a.size.width a.size.height a.count a.places (omega arith) c.test_rules.ensures.kept_value c.test_rules.ensures.rows_value told in
    let size = ap (canvas_length_check a.size.width a.size.height) long ∙ sym c.check_length.ensures ∙ c.in_ok-check_length.was in
    sym (paint_no_layer a.size.width a.size.height a.count a.places (omega arith) a.layer canvas kept size c.if-count-layer.true)

pub bounds-rows-place : goal.bounds-rows-place
bounds-rows-place c =
    let a = c.args in
    let told = c.ok_or.ensures.ok_part ∙ ap result_ok c.in_ok-rows.was in
    let within = c.if-count-layer.false in
    omega (arith, few a.size.width a.size.height a.count a.places (omega arith) c.test_rules.ensures.kept_value c.test_rules.ensures.rows_value told)

-- 11
pub returns-then-own-next-clause-by_index : goal.returns-then-own-next-clause-by_index
returns-then-own-next-clause-by_index c canvas long =
    let a = c.args in
    let told = c.ok_or.ensures.ok_part ∙ ap result_ok c.in_ok-rows.was in
    let kept = rules a.size.width a.size.height a.count a.places (omega arith) c.test_rules.ensures.kept_value c.test_rules.ensures.rows_value told in
    let size = ap (canvas_length_check a.size.width a.size.height) long ∙ sym c.check_length.ensures ∙ c.in_ok-check_length.was in
    let past = by_end a.size.width a.size.height a.count a.places (omega arith) c.test_rules.ensures.kept_value c.test_rules.ensures.rows_value told a.layer c.if-count-layer.false
    c.if-own-next.true in
    sym (paint_finished a.size.width a.size.height a.count a.places (omega arith) a.layer canvas kept size c.if-count-layer.false past)

-- 12
pub returns-then-some_owes-clause-by_index : goal.returns-then-some_owes-clause-by_index
returns-then-some_owes-clause-by_index c canvas long =
    let a = c.args in
    let told = c.ok_or.ensures.ok_part ∙ ap result_ok c.in_ok-rows.was in
    let kept = rules a.size.width a.size.height a.count a.places (omega arith) c.test_rules.ensures.kept_value c.test_rules.ensures.rows_value told in
    let size = ap (canvas_length_check a.size.width a.size.height) long ∙ sym c.check_length.ensures ∙ c.in_ok-check_length.was in
    let left = by_end a.size.width a.size.height a.count a.places (omega arith) c.test_rules.ensures.kept_value c.test_rules.ensures.rows_value told a.layer c.if-count-layer.false
    c.if-own-next.false in
    let owes = owed a.size.width a.size.height a.count a.places (omega arith) c.test_rules.ensures.kept_value c.test_rules.ensures.rows_value told a.layer c.if-count-layer.false
    (sym c.if-some_owes.true ∙ c.some_owes.ensures) in
    sym (paint_owed a.size.width a.size.height a.count a.places (omega arith) a.layer canvas kept size c.if-count-layer.false left owes)

-- the layer's next row
pub returns-clause-by_index : goal.returns-clause-by_index
returns-clause-by_index c canvas long =
    let a = c.args in
    let told = c.ok_or.ensures.ok_part ∙ ap result_ok c.in_ok-rows.was in
    let kept = rules a.size.width a.size.height a.count a.places (omega arith) c.test_rules.ensures.kept_value c.test_rules.ensures.rows_value told in
    let size = ap (canvas_length_check a.size.width a.size.height) long ∙ sym c.check_length.ensures ∙ c.in_ok-check_length.was in
    let left = by_end a.size.width a.size.height a.count a.places (omega arith) c.test_rules.ensures.kept_value c.test_rules.ensures.rows_value told a.layer c.if-count-layer.false
    c.if-own-next.false in
    let owes = owed a.size.width a.size.height a.count a.places (omega arith) c.test_rules.ensures.kept_value c.test_rules.ensures.rows_value told a.layer c.if-count-layer.false
    (sym c.if-some_owes.false ∙ c.some_owes.ensures) in
    sym (paint_free a.size.width a.size.height a.count a.places (omega arith) a.layer canvas kept size c.if-count-layer.false left owes)

pub returns-clause-next_row : goal.returns-clause-next_row
unfolding layer_rows
returns-clause-next_row c =
    let a = c.args in
    let told = c.ok_or.ensures.ok_part ∙ ap result_ok c.in_ok-rows.was in
    let is = own_is a.size.width a.size.height a.count a.places (omega arith) c.test_rules.ensures.kept_value c.test_rules.ensures.rows_value told a.layer c.if-count-layer.false in
    let fits = own_fits a.size.width a.size.height a.count a.places (omega arith) c.test_rules.ensures.kept_value c.test_rules.ensures.rows_value told a.layer c.if-count-layer.false in
    to_z-of_z fits.next ∙ ap (λ (r : LayerRows). r.next) is
