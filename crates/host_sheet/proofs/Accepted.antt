-- What an accepted call says of the sheet given: an added layer has a place, and a painted or a removed one is in one; and what is
-- written of a painted one.
-- Assumes nothing.
use Rattle.refusal.specs.Refusal.{passed}
use mathlib.Core.Path.{◌≡◌, sym, ap, ◌∙◌}
use mathlib.Core.List.{List, []}
use Prim.Native.Nat.{ℕ, ◌+◌, ◌<◌, ◌≤◌}
use native.Mathlib.Omega.{arith}
use lib.IntN.{ℤ}
use lib.ListN.{set, get_or}
use lib.Seq.{get_or-set_same}
use Rattle.signed.specs.Signed.{max_i32}
use Rattle.geometry.specs.Limits.{max_layers}
use Rattle.book.specs.Book.{paint, remove}
use Rattle.sheet_checks.proofs.Places.{kept_few}
use Rattle.sheet_checks.proofs.Answers.{added_room, painted_accepted, removed_accepted}
use Rattle.sheet.specs.declared.Sheet.{Sheet}
use Rattle.sheet_layers.specs.declared.Layer.{Layer}
use Rattle.sheet_layers.specs.Layers.{blank_layer}
use Rattle.sheet.specs.Sheet.{sheet_answer, painted_layer, carried_out_sheet, sheet_after}
use Rattle.sheet.proofs.Records.{added_record}
use Rattle.host_records.specs.RecordNumbers.{figure_of, style_of}
use Rattle.drawing.specs.Drawing.{styled_figure}
use Rattle.host_sheet_record.specs.SheetRecord.{next_row_at, place_at, sheet_of, row_painted}
use Rattle.host_sheet_record.proofs.Parts.{sixteen}
use Rattle.host_sheet_record.proofs.ReadBack.{layer_in_place}
use Rattle.host_sheet.specs.Sheets.{add_of, next_row_of, with_painted}

pub added_place : (numbers figure style : List ℤ) → sheet_answer (sheet_of numbers) [] (add_of figure style) ≡ passed
    → (sheet_of numbers).count < max_layers
added_place numbers figure style e =
    let s = sheet_of numbers in
    added_room s.width s.height s.count s.layers (sixteen numbers) (styled_figure (figure_of figure) (style_of style)) [] e

pub painted_place : (numbers : List ℤ) (i : ℕ) (canvas : List ℕ) → sheet_answer (sheet_of numbers) canvas (paint i) ≡ passed → i < max_layers
painted_place numbers i canvas e =
    let s = sheet_of numbers in
    let told = painted_accepted s.width s.height s.count s.layers (sixteen numbers) i canvas e in
    let within = told.within in
    let few = kept_few s.width s.height s.count s.layers (sixteen numbers) told.rules in
    omega arith

pub painted_few : (numbers : List ℤ) (i : ℕ) (canvas : List ℕ) → sheet_answer (sheet_of numbers) canvas (paint i) ≡ passed
    → (sheet_of numbers).count ≤ max_layers
painted_few numbers i canvas e =
    let s = sheet_of numbers in
    kept_few s.width s.height s.count s.layers (sixteen numbers)
    (painted_accepted s.width s.height s.count s.layers (sixteen numbers) i canvas e).rules

-- a painted layer's next row is the one below
pub painted_next : (numbers : List ℤ) (i : ℕ) → i < max_layers
    → next_row_of (carried_out_sheet (sheet_of numbers) (paint i)) i ≡ (painted_layer (get_or (sheet_of numbers).layers i blank_layer)).next_row
unfolding carried_out_sheet
painted_next numbers i place =
    ap (λ (l : Layer). l.next_row)
    (get_or-set_same (sheet_of numbers).layers i (painted_layer (get_or (sheet_of numbers).layers i blank_layer)) blank_layer
    (omega (arith, sixteen numbers)))

pub painted_numbers : (numbers : List ℤ) (i : ℕ) (canvas : List ℕ) → sheet_answer (sheet_of numbers) canvas (paint i) ≡ passed
    → row_painted numbers i ≡ with_painted numbers i (carried_out_sheet (sheet_of numbers) (paint i))
painted_numbers numbers i canvas e =
    let place = painted_place numbers i canvas e in
    ap (λ (z : ℤ). set numbers (place_at i + next_row_at) z)
    (sym (painted_next numbers i place ∙ ap (λ (l : Layer). (painted_layer l).next_row) (layer_in_place numbers i place)))

-- and the new count is small
pub added_count : (numbers figure style : List ℤ) → sheet_answer (sheet_of numbers) [] (add_of figure style) ≡ passed
    → (sheet_after (sheet_of numbers) [] (add_of figure style)).count ≤ max_i32
unfolding carried_out_sheet
added_count numbers figure style e =
    let place = added_place numbers figure style e in
    let count =
    ap (λ (s : Sheet). s.count) (added_record (sheet_of numbers) (sixteen numbers) [] (styled_figure (figure_of figure) (style_of style)) e) in
    omega arith

-- a removed layer is one of those that the sheet says, and these have places
pub removed_within : (numbers : List ℤ) (i : ℕ) (canvas background : List ℕ)
    → sheet_answer (sheet_of numbers) canvas (remove i background) ≡ passed → i < (sheet_of numbers).count
removed_within numbers i canvas background e =
    let s = sheet_of numbers in
    (removed_accepted s.width s.height s.count s.layers (sixteen numbers) i background canvas e).within

pub removed_few : (numbers : List ℤ) (i : ℕ) (canvas background : List ℕ)
    → sheet_answer (sheet_of numbers) canvas (remove i background) ≡ passed → (sheet_of numbers).count ≤ max_layers
removed_few numbers i canvas background e =
    let s = sheet_of numbers in
    kept_few s.width s.height s.count s.layers (sixteen numbers)
    (removed_accepted s.width s.height s.count s.layers (sixteen numbers) i background canvas e).rules
