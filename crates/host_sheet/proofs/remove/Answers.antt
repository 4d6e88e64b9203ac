-- `host_sheet::remove` meets its contract: the layer is removed from the sheet that the numbers are; accepted, its place is taken out and
-- the new count written.
use mathlib.Core.Path.{◌≡◌, refl, sym, ap, ap₂, ◌∙◌}
use mathlib.Core.List.{List}
use Prim.Native.Nat.{ℕ, ◌<◌, ◌≤◌}
use native.Mathlib.Omega.{arith}
use lib.IntN.{ℤ, pos}
use lib.ListN.{set}
use mir.Facts.{to_z-of_z}
use Rattle.refusal.specs.Refusal.{Checked, passed, answer_number}
use Rattle.geometry.specs.Limits.{max_layers}
use Rattle.book.specs.Book.{remove as call_remove}
use Rattle.sheet.specs.declared.Sheet.{Sheet}
use Rattle.sheet.specs.Sheet.{sheet_answer, carried_out_sheet, sheet_after, canvas_after}
use Rattle.sheet.proofs.Records.{removed_record}
use Rattle.host_sheet_record.specs.SheetRecord.{count_at, sheet_of}
use Rattle.host_sheet_record.proofs.Parts.{sheet_length_lem, sixteen}
use Rattle.host_sheet.specs.Sheets.{remove_told, remove_numbers, remove_canvas}
use Rattle.host_sheet.proofs.Accepted.{removed_within, removed_few}
use Rattle.host_sheet.proofs.remove.Goals as goal

-- what the call answers, and the sheet after it and the canvas, by the numbers that were read
module _ (n : List ℤ) (layer : ℕ) (canvas background : List ℕ) {s after : Sheet} {answer : Checked} {painted : List ℕ} (s_is : s ≡ sheet_of n)
    (answer_value : answer ≡ sheet_answer s canvas (call_remove layer background))
    (sheet_value : after ≡ sheet_after s canvas (call_remove layer background))
    (canvas_value : painted ≡ canvas_after s canvas (call_remove layer background)) where
  says : answer ≡ sheet_answer (sheet_of n) canvas (call_remove layer background)
  says = answer_value ∙ ap (λ (t : Sheet). sheet_answer t canvas (call_remove layer background)) s_is

  painted_is : painted ≡ canvas_after (sheet_of n) canvas (call_remove layer background)
  painted_is = canvas_value ∙ ap (λ (t : Sheet). canvas_after t canvas (call_remove layer background)) s_is

  module _ (told : answer ≡ passed) where
    accepted : sheet_answer (sheet_of n) canvas (call_remove layer background) ≡ passed
    accepted = sym says ∙ told

    carried : after ≡ carried_out_sheet (sheet_of n) (call_remove layer background)
    carried =
        sheet_value ∙ ap (λ (t : Sheet). sheet_after t canvas (call_remove layer background)) s_is
        ∙ removed_record (sheet_of n) (sixteen n) canvas layer background accepted

    place : layer < max_layers
    place =
        let within = removed_within n layer canvas background accepted in
        omega (arith, removed_few n layer canvas background accepted)

    -- the counts before and after it are small
    small_counts : (s.count ≤ max_layers) × (after.count ≤ max_layers)
    unfolding carried_out_sheet
    small_counts =
        let few = removed_few n layer canvas background accepted in
        let before = ap (λ (t : Sheet). t.count) s_is in
        let left = ap (λ (t : Sheet). t.count) carried in
        (omega arith, omega arith)

pub returns-then-not-is_sheet : goal.returns-then-not-is_sheet
unfolding remove_told remove_numbers remove_canvas
returns-then-not-is_sheet c = rw (sym c.is_sheet.ensures ∙ c.if-not-is_sheet.true) (record { value = refl; sheet_after = refl; canvas_after = refl; background_value = refl })

-- refused
pub returns-in_default : goal.returns-in_default
unfolding remove_told remove_numbers remove_canvas
returns-in_default c =
    let a = c.args in
    let made = c.remove-made.ensures in
    let refused = sym (says a.sheet.now a.layer a.canvas.now a.background.now c.sheet_of-before.ensures made.answer_value made.sheet_value made.canvas_after) ∙ c.in_default.is in
    rw (sym c.is_sheet.ensures ∙ c.if-not-is_sheet.false, refused) (record {
      value = c.number_of.ensures ∙ ap answer_number c.in_default.is;
      sheet_after = refl;
      canvas_after = painted_is a.sheet.now a.layer a.canvas.now a.background.now c.sheet_of-before.ensures made.answer_value made.sheet_value made.canvas_after;
      background_value = refl;
    })

pub remove_place-requires : goal.remove_place-requires
remove_place-requires c =
    let a = c.args in
    let made = c.remove-made.ensures in (
      sheet_length_lem a.sheet.now (sym c.is_sheet.ensures ∙ c.if-not-is_sheet.false),
      place a.sheet.now a.layer a.canvas.now a.background.now c.sheet_of-before.ensures made.answer_value made.sheet_value made.canvas_after c.in-Ok.is,
    )

pub from_u32-requires : goal.from_u32-requires
from_u32-requires c =
    let a = c.args in
    let made = c.remove-made.ensures in
    let small = small_counts a.sheet.now a.layer a.canvas.now a.background.now c.sheet_of-before.ensures made.answer_value made.sheet_value made.canvas_after c.in-Ok.is in
    omega arith

-- accepted
pub returns : goal.returns
unfolding remove_told remove_numbers remove_canvas
returns c =
    let a = c.args in
    let made = c.remove-made.ensures in
    rw (
      sym c.is_sheet.ensures ∙ c.if-not-is_sheet.false,
      accepted a.sheet.now a.layer a.canvas.now a.background.now c.sheet_of-before.ensures made.answer_value made.sheet_value made.canvas_after c.in-Ok.is,
    ) (record {
      value = refl;
      sheet_after = ap₂ (λ (l : List ℤ) (z : ℤ). set l count_at z) c.remove_place.ensures
          (to_z-of_z c.from_u32.ensures.fits ∙ c.from_u32.ensures.is
          ∙ ap (λ (s : Sheet). pos s.count)
          (carried a.sheet.now a.layer a.canvas.now a.background.now c.sheet_of-before.ensures made.answer_value made.sheet_value made.canvas_after c.in-Ok.is));
      canvas_after = painted_is a.sheet.now a.layer a.canvas.now a.background.now c.sheet_of-before.ensures made.answer_value made.sheet_value made.canvas_after;
      background_value = refl;
    })
