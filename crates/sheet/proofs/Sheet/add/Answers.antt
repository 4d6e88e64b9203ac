-- `sheet::Sheet::add` meets its contract: the checks made are those of the answer, in the table's order; passed, there is a free
-- place, and the layer is put there.
use mathlib.Core.Path.{◌≡◌, sym, ap, ◌∙◌}
use mathlib.Core.List.{[]}
use native.Mathlib.Omega.{arith}
use lib.IntN.{ℤ}
use lib.ListN.{length}
use mir.Facts.{to_z-of_z}
use Prim.Native.Nat.{◌+◌, ◌<◌}
use Rattle.refusal.specs.Refusal.{or_else, Checked, passed}
use Rattle.refusal.proofs.Checks.{passed_first, and_or_else}
use Rattle.book.specs.Book.{add as call_add}
use Rattle.drawing.specs.declared.StrokeRows.{StrokeRows}
use Rattle.drawing.specs.Drawing.{StyledFigure, styled_figure, styled_check}
use Rattle.sheet_layers.proofs.LayerRules.{checked_figure, checked_stroke}
use Rattle.sheet_checks.proofs.Answers.{added_room}
use Rattle.sheet.specs.Sheet.{sheet_answer, with_layer, carried_out_sheet}
use Rattle.sheet.proofs.Records.{refused_record, added_record}
use Rattle.sheet.proofs.Sheet.add.Lts
use Rattle.sheet.proofs.Sheet.add.Reads
use Rattle.sheet.proofs.Sheet.add.Tie
use Rattle.sheet.proofs.Sheet.add.Goals as goal

-- the facts known at these places
abbrev Start : Type 0
Start = Lts.Start Tie.the-claims Reads.Pre Reads.Post Tie.handed_clauses

abbrev After-and-checked : Type 0
After-and-checked = Lts.After-and Tie.the-claims Reads.Pre Reads.Post Tie.handed_clauses

abbrev In-Ok : Type 0
In-Ok = Lts.Past-After-enum_told Tie.the-claims Reads.Pre Reads.Post Tie.handed_clauses

sixteen : (c : Start) → length c.args.self.layers ≡ 16
sixteen c = c.well_formed.0.1.1.1.1.1.0.1.0.1

abbrev item : Start → StyledFigure
item c = styled_figure c.args.figure c.args.style

-- the check made is that of the answer
checked : (c : After-and-checked)
    → sheet_answer c.args.self [] (call_add (item c.before.before.before.before))
    ≡ c.and-checked.result
checked c =
    let figure = c.check in
    let room = c.check_add-room in
    c.check_add-room.ensures (item c.before.before.before.before) []
    ∙ ap (λ (t : Checked). or_else t c.check_add-room.result) (sym c.check.ensures)
    ∙ sym (and_or_else c.check.result c.check_add-room.result)
    ∙ sym c.and-checked.ensures

has_passed : (c : In-Ok) → sheet_answer c.args.self [] (call_add (item c.before.before.before.before.before)) ≡ passed
has_passed c = checked c.before ∙ c.in-Ok.is

figure_passed : (c : In-Ok) → styled_check c.args.figure c.args.style ≡ passed
figure_passed c =
    let figure = c.check in
    sym c.check.ensures
    ∙ passed_first c.check.result c.check_add-room.result
    (sym (and_or_else c.check.result c.check_add-room.result) ∙ sym c.and-checked.ensures ∙ c.in-Ok.is)

room : (c : In-Ok) → c.args.self.count < 16
room c =
    let s = c.args.self in
    added_room s.width s.height s.count s.layers (sixteen c.before.before.before.before.before) (item c.before.before.before.before.before) [] (has_passed c)

-- refused
pub returns-in_default : goal.returns-in_default
returns-in_default c =
    let says = checked c.before ∙ c.in_default.is in
    record { answer_value = sym (checked c.before); sheet_value = sym (refused_record c.args.self (sixteen c.before.before.before.before.before) [] (call_add (item c.before.before.before.before.before)) _ says) }

pub stroke_rows-area-requires : goal.stroke_rows-area-requires
stroke_rows-area-requires c = record { own_figure = checked_figure _ _ (figure_passed c); stroke_width_bound = checked_stroke _ _ (figure_passed c) }

pub bounds-sheet-place : goal.bounds-sheet-place
bounds-sheet-place c = room c.before.before.before

pub overflow_add-sheet : goal.overflow_add-sheet
overflow_add-sheet c = let free = room c.before.before.before.before in record { fits = omega arith }

pub returns : goal.returns
unfolding carried_out_sheet
returns c =
    let a = c.args in
    let area = c.stroke_rows-area.ensures in
    let first = to_z-of_z c.stroke_rows-area.ensures.near.0.fits ∙ ap (λ (r : StrokeRows). r.first) c.stroke_rows-area.ensures.value in record {
      answer_value = sym (has_passed c.before.before.before.before);
      sheet_value = ap (λ (z : ℤ). with_layer a.self (a.self.count + 1) a.self.count
          (record { figure = a.figure; style = a.style; next_row = z })) first
          ∙ sym (added_record a.self (sixteen c.before.before.before.before.before.before.before.before.before) [] (item c.before.before.before.before.before.before.before.before.before) (has_passed c.before.before.before.before));
    }
