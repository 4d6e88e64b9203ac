-- `sheet_calls::make_call` meets its contract: the first number says which call it is, and the sheet's own promise the rest.
use mathlib.Core.Path.{◌≡◌, sym, ap, ap₂, ◌∙◌}
use mathlib.Core.Bool.{Bool, false}
use Prim.Native.Nat.{ℕ}
use lib.IntN.{ℤ}
use lib.Signed.{le_z}
use mir.Syntax.{w32}
use mir.Val.{to_z, of_z}
use Rattle.signed.specs.Signed.{floor0}
use Rattle.book.specs.Book.{add as call_add, paint as call_paint, remove as call_remove}
use Rattle.drawing.specs.Drawing.{styled_figure}
use Rattle.sheet.proofs.Records.{add_takes_no_canvas}
use Rattle.host_records.specs.RecordNumbers.{number_at}
use Rattle.host_records.proofs.Walks.{read_back}
use Rattle.sheet_call_numbers.specs.CallNumbers.{call_kind_at, call_layer_at, paint_kind, remove_kind, call_of}
use Rattle.sheet_calls.proofs.make_call.Lts
use Rattle.sheet_calls.proofs.make_call.Reads
use Rattle.sheet_calls.proofs.make_call.Tie
use Rattle.sheet_calls.proofs.make_call.Goals as goal

-- the facts known at these places
abbrev Start : Type 0
Start = Lts.Start Tie.the-claims Reads.Pre Reads.Post Tie.handed_clauses

abbrev After-t6-1 : Type 0
After-t6-1 = Lts.After-if12 Tie.the-claims Reads.Pre Reads.Post Tie.handed_clauses

abbrev After-floor0 : Type 0
After-floor0 = Lts.After-floor0 Tie.the-claims Reads.Pre Reads.Post Tie.handed_clauses

abbrev After-t6-2-1 : Type 0
After-t6-2-1 = Lts.After-if22 Tie.the-claims Reads.Pre Reads.Post Tie.handed_clauses

abbrev After-floor0-then-numbers-ge-PAINT : Type 0
After-floor0-then-numbers-ge-PAINT = Lts.After-floor02 Tie.the-claims Reads.Pre Reads.Post Tie.handed_clauses

abbrev After-style_of : Type 0
After-style_of = Lts.After-style_of Tie.the-claims Reads.Pre Reads.Post Tie.handed_clauses

abbrev start_if12 : After-t6-1 → Start
start_if12 c = c.before.before.before

-- whether a layer is removed
removes_by_kind : (c : After-t6-1) {t : Bool}
    → le_z remove_kind (to_z w32 (of_z w32 (number_at c.args.numbers.now call_kind_at))) ≡ t
    → le_z remove_kind (number_at c.args.numbers.now call_kind_at) ≡ t
removes_by_kind c test =
    sym (ap (le_z remove_kind) (read_back c.args.numbers.now call_kind_at c.t6-1.given)) ∙ test

removes : (c : After-floor0)
    → call_of c.args.background.now c.args.numbers.now
    ≡ call_remove c.floor0.result c.args.background.now
unfolding call_of
removes c =
    let a = c.args in
    let layer = c.floor0.ensures ∙ ap (λ (z : ℤ). floor0 z) (read_back a.numbers.now call_layer_at c.floor0-arg-1.given) in
    rw (removes_by_kind c.before.before.before c.if-numbers-ge-REMOVE.true)
    (ap (λ (i : ℕ). call_remove i a.background.now) (sym layer))

-- if not, whether a row is painted
abbrev start_if22 : After-t6-2-1 → Start
start_if22 c = start_if12 c.before.before

not_removed : (c : After-t6-2-1) → le_z remove_kind (number_at c.args.numbers.now call_kind_at) ≡ false
not_removed c = removes_by_kind c.before.before c.if-numbers-ge-REMOVE.false

paints_by_kind : (c : After-t6-2-1) {t : Bool}
    → le_z paint_kind (to_z w32 (of_z w32 (number_at c.args.numbers.now call_kind_at))) ≡ t
    → le_z paint_kind (number_at c.args.numbers.now call_kind_at) ≡ t
paints_by_kind c test =
    sym (ap (le_z paint_kind) (read_back c.args.numbers.now call_kind_at c.t6-2-1.given)) ∙ test

paints : (c : After-floor0-then-numbers-ge-PAINT)
    → call_of c.args.background.now c.args.numbers.now
    ≡ call_paint c.floor0-then-numbers-ge-PAINT.result
unfolding call_of
paints c =
    let a = c.args in
    let layer = c.floor0-then-numbers-ge-PAINT.ensures ∙ ap (λ (z : ℤ). floor0 z) (read_back a.numbers.now call_layer_at c.floor0-arg-then-numbers-ge-PAINT-1.given) in
    rw (not_removed c.before.before.before, paints_by_kind c.before.before.before c.if-numbers-ge-PAINT.true)
    (ap call_paint (sym layer))

adds : (c : After-style_of)
    → call_of c.args.background.now c.args.numbers.now
    ≡ call_add (styled_figure c.figure_of.result c.style_of.result)
unfolding call_of
adds c =
    rw (not_removed c.before.before.before.before.before, paints_by_kind c.before.before.before.before.before c.if-numbers-ge-PAINT.false)
    (ap call_add (sym (ap₂ styled_figure c.figure_of.ensures c.style_of.ensures)))

pub returns-then-numbers-ge-REMOVE : goal.returns-then-numbers-ge-REMOVE
returns-then-numbers-ge-REMOVE c =
    let done = c.remove.ensures in
    rw (removes c.before.before.before.before.before)
    (record { answer = c.remove.ensures.answer_value; sheet = c.remove.ensures.sheet_value; bytes = c.remove.ensures.canvas_after })

pub returns-then-numbers-ge-PAINT : goal.returns-then-numbers-ge-PAINT
returns-then-numbers-ge-PAINT c =
    let done = c.paint.ensures in
    rw (paints c.before.before.before.before.before)
    (record { answer = c.paint.ensures.answer_value; sheet = c.paint.ensures.sheet_value; bytes = c.paint.ensures.canvas_after })

pub returns : goal.returns
returns c =
    let item = styled_figure c.figure_of.result c.style_of.result in
    let any = add_takes_no_canvas c.args.sheet c.args.canvas.now item in
    rw (adds c.before.before)
    (record {
      answer = c.add.ensures.answer_value ∙ any.same_answer;
      sheet = c.add.ensures.sheet_value ∙ any.same_sheet;
      bytes = sym any.canvas_kept;
    })
