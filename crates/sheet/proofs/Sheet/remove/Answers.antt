-- `sheet::Sheet::remove` meets its contract: the check made is the answer; passed, the layer is within bounds, the rows that it had
-- painted are shown anew, and the places behind it move down. A refusal is the check's own, and nothing was written.
use Rattle.refusal.specs.Refusal.{Checked, passed}
use borrow.Author.Rules.{rules}
use mathlib.Core.Path.{◌≡◌, refl, sym, ap, subst, ◌∙◌}
use mathlib.Core.Bool.{Bool}
use mathlib.Core.List.{List, map}
use mathlib.Core.Option.{some}
use Prim.Native.Nat.{◌≤◌, ◌-◌}
use native.Mathlib.Omega.{arith}
use lib.ListN.{length, take, get_or}
use Rattle.std.specs.Prelude.{Option, Some, IfSome}
use Rattle.book.specs.Book.{without, remove as call_remove}
use Rattle.book.specs.Sheet.{Layers, restored}
use Rattle.drawing.specs.Drawing.{drawing}
use Rattle.sheet_layers.specs.declared.Layer.{Layer}
use Rattle.sheet_layers.specs.declared.rows.LayerRows.{LayerRows}
use Rattle.sheet_layers.specs.Layers.{layer_of, blank_layer, layer_rows}
use Rattle.sheet.specs.declared.Sheet.{Sheet}
use Rattle.sheet.specs.Sheet.{sheet_answer, carried_out_sheet}
use Rattle.sheet_checks.specs.Asked.{remove_check}
use Rattle.sheet_checks.proofs.Places.{layers_are, kept_few, kept_layer, kept_width, kept_height}
use Rattle.sheet_checks.proofs.Answers.{RemoveAccepted, remove_check_is, removed_accepted, rows_at}
use Rattle.sheet_layers.proofs.LayerRules.{Ready}
use Rattle.sheet.proofs.Records.{refused_record, refused_canvas, removed_record, removed_canvas}
use Rattle.sheet.proofs.Sheet.remove.Lts
use Rattle.sheet.proofs.Sheet.remove.Reads
use Rattle.sheet.proofs.Sheet.remove.Tie
use Rattle.sheet.proofs.Sheet.remove.Goals as goal

-- the facts known at these places
abbrev Start : Type 0
Start = Lts.Start Tie.the-claims Reads.Pre Reads.Post Tie.handed_clauses

abbrev After-check_remove-checked : Type 0
After-check_remove-checked = Lts.After-check_remove Tie.the-claims Reads.Pre Reads.Post Tie.handed_clauses

abbrev In-Ok : Type 0
In-Ok = Lts.Past-After-enum_told Tie.the-claims Reads.Pre Reads.Post Tie.handed_clauses

sixteen : (c : Start) → length c.args.self.layers ≡ 16
sixteen c = c.well_formed.0.1.1.1.1.1.0.1.0.1

abbrev entry : After-check_remove-checked → Start
entry c = c.before.before.before.before.before.before.before

abbrev sheet : After-check_remove-checked → Sheet
sheet c = c.args.self

abbrev answered : After-check_remove-checked → Checked
answered c = sheet_answer (sheet c) c.args.canvas.now (call_remove c.args.layer c.args.background.now)

-- the check made is the answer
checked : (c : After-check_remove-checked) → c.check_remove-checked.result ≡ answered c
checked c =
    let a = c.args in
    let s = sheet c in
    c.check_remove-checked.ensures
    ∙ ap (λ (t : Bool). remove_check t s.width s.height (length a.canvas.now) (length a.background.now) s.count a.layer)
    (c.is_some.ensures ∙ c.test_rules-tested.ensures.kept_value)
    ∙ remove_check_is s.width s.height s.count s.layers (sixteen (entry c)) a.layer a.background.now a.canvas.now

has_passed : (c : In-Ok) → answered c.before ≡ passed
has_passed c = sym (checked c.before) ∙ c.in-Ok.is

told : (c : In-Ok)
    → RemoveAccepted (sheet c.before).width (sheet c.before).height (sheet c.before).count (sheet c.before).layers (sixteen (entry c.before))
    c.args.layer c.args.background.now c.args.canvas.now
told c =
    let a = c.args in
    let s = sheet c.before in
    removed_accepted s.width s.height s.count s.layers (sixteen (entry c.before)) a.layer a.background.now
    a.canvas.now (has_passed c)

few : (c : In-Ok) → (sheet c.before).count ≤ 16
few c =
    let s = sheet c.before in
    kept_few s.width s.height s.count s.layers (sixteen (entry c.before)) (told c).rules

-- the layers are within limits, and their rows were found
ready : (c : In-Ok) (rows : List LayerRows) → c.test_rules-tested.result ≡ Some rows → Ready (sheet c.before).layers rows (sheet c.before).count
ready c rows is =
    let s = sheet c.before in
    let tested = c.test_rules-tested in
    let long = sixteen (entry c.before) in
    let found =
    subst (λ (o : Option (List LayerRows)). IfSome o (λ r. take s.count r ≡ map layer_rows (take s.count s.layers))) is tested.ensures.rows_value in
    record {
      within = kept_layer s.width s.height s.count s.layers long (told c).rules;
      rows_are = λ i h. rows_at s.count i h rows s.layers found (omega (arith, few c));
    }

-- refused
pub returns-in_default : goal.returns-in_default
returns-in_default c =
    let a = c.args in
    let call = call_remove a.layer a.background.now in
    let says = sym (checked c.before.before) ∙ c.in_default.is in record {
      answer_value = checked c.before.before;
      sheet_value = sym (refused_record a.self (sixteen (entry c.before.before)) a.canvas.now call _ says);
      canvas_after = sym (refused_canvas a.self (sixteen (entry c.before.before)) a.canvas.now call _ says);
      background_value = refl;
    }

pub restore-requires : goal.restore-requires
restore-requires c =
    let s = sheet c.before.before.before.before in
    let accepted = told c.before.before.before in
    let long = sixteen (entry c.before.before.before.before) in record {
      canvas_len = accepted.size;
      background_len = accepted.long;
      width_le_max_canvas_side = (
        kept_width s.width s.height s.count s.layers long accepted.rules,
        kept_height s.width s.height s.count s.layers long accepted.rules,
      );
      place_lt_count = (accepted.within, few c.before.before.before, ready c.before.before.before _ c.unwrap-rows.ensures);
    }

pub unwrap-rows-requires : goal.unwrap-rows-requires
unwrap-rows-requires c = c.test_rules-tested.ensures.kept_value ∙ (told c.before).rules

pub overflow_sub-result : goal.overflow_sub-result
overflow_sub-result c = let within = (told c.before.before.before.before.before.before).within in omega arith

pub without-requires : goal.without-requires
without-requires c =
    omega (arith, (told c.before.before.before.before.before.before).within, few c.before.before.before.before.before.before)

pub returns : goal.returns
unfolding carried_out_sheet
returns c =
    let a = c.args in
    let s = a.self in
    let own = layer_of (get_or s.layers a.layer blank_layer) in record {
      answer_value = sym (has_passed c.before.before.before.before.before.before.before);
      sheet_value = ap (λ (l : List Layer). record { width = s.width; height = s.height; count = s.count - 1; layers = l }) c.without.ensures
          ∙ sym (removed_record s (sixteen c.before.before.before.before.before.before.before.before.before.before.before.before.before.before.before) a.canvas.now a.layer a.background.now (has_passed c.before.before.before.before.before.before.before));
      canvas_after = c.restore.ensures
          ∙ ap (λ (l : Layers drawing). restored drawing s.width s.height (some own) (without a.layer l) a.background.now
          a.canvas.now) (sym (layers_are s.count s.layers (sixteen c.before.before.before.before.before.before.before.before.before.before.before.before.before.before.before) (few c.before.before.before.before.before.before.before)))
          ∙ sym (removed_canvas s (sixteen c.before.before.before.before.before.before.before.before.before.before.before.before.before.before.before) a.canvas.now a.layer a.background.now (has_passed c.before.before.before.before.before.before.before));
      background_value = refl;
    }
