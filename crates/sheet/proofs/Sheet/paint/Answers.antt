-- `sheet::Sheet::paint` meets its contract: the check made is the answer; passed, the layer is within bounds, its row is written
-- and its next row moves down by one. A refusal is the check's own, and nothing was written.
use Rattle.refusal.specs.Refusal.{passed}
use borrow.Author.Rules.{rules}
use mathlib.Core.Path.{◌≡◌, refl, sym, ap, subst, ◌∙◌}
use mathlib.Core.List.{List}
use Prim.Native.Nat.{ℕ, ◌<◌, ◌≤◌}
use native.Mathlib.Omega.{arith}
use lib.IntN.{ℤ, pos, ◌+ℤ◌}
use lib.ListN.{length, get_or}
use mir.Syntax.{w32}
use mir.Val.{SFits, to_z, of_z}
use mir.Facts.{to_z-of_z}
use Rattle.signed.proofs.Laws.{int}
use Rattle.geometry.specs.Bounds.{wide_side}
use Rattle.book.specs.Book.{paint as call_paint}
use Rattle.book.specs.Sheet.{paint_row}
use Rattle.drawing.specs.Drawing.{styled_figure, drawing}
use Rattle.sheet_layers.specs.declared.Layer.{Layer}
use Rattle.sheet_layers.specs.Layers.{blank_layer}
use Rattle.sheet_layers.proofs.LayerRules.{LayerWithin}
use Rattle.sheet.specs.declared.Sheet.{Sheet}
use Rattle.sheet.specs.Sheet.{sheet_answer, with_layer, carried_out_sheet}
use Rattle.sheet_checks.specs.Asked.{asked_answer, NextRow}
use Rattle.sheet_checks.proofs.Places.{kept_few, kept_layer, kept_width}
use Rattle.sheet_checks.proofs.Answers.{PaintAccepted, painted_accepted}
use Rattle.sheet.proofs.Records.{refused_record, refused_canvas, painted_record, painted_canvas}
use Rattle.sheet.proofs.Sheet.paint.Lts
use Rattle.sheet.proofs.Sheet.paint.Reads
use Rattle.sheet.proofs.Sheet.paint.Tie
use Rattle.sheet.proofs.Sheet.paint.Goals as goal

-- the facts known at these places
abbrev Start : Type 0
Start = Lts.Start Tie.the-claims Reads.Pre Reads.Post Tie.handed_clauses

abbrev After-asked_row-asked : Type 0
After-asked_row-asked = Lts.After-asked_row Tie.the-claims Reads.Pre Reads.Post Tie.handed_clauses

abbrev In-Ok : Type 0
In-Ok = Lts.Past-After-known_told Tie.the-claims Reads.Pre Reads.Post Tie.handed_clauses

sixteen : (c : Start) → length c.args.self.layers ≡ 16
sixteen c = c.well_formed.0.1.1.1.1.1.0.1.0.1

-- the check made is the answer
checked : (c : After-asked_row-asked)
    → asked_answer c.asked_row-asked.result ≡ sheet_answer c.args.self c.args.canvas.now
    (call_paint c.args.layer)
checked c = c.asked_row-asked.ensures.by_index c.args.canvas.now refl

abbrev sheet : In-Ok → Sheet
sheet c = c.args.self

abbrev layer : In-Ok → Layer
layer c = get_or (sheet c).layers c.args.layer blank_layer

has_passed : (c : In-Ok) → sheet_answer (sheet c) c.args.canvas.now (call_paint c.args.layer) ≡ passed
has_passed c = sym (checked c.before) ∙ ap asked_answer c.in-Ok.is

told : (c : In-Ok) → PaintAccepted (sheet c).width (sheet c).height (sheet c).count (sheet c).layers (sixteen c.before.before.before.before)
    c.args.layer c.args.canvas.now
told c =
    painted_accepted (sheet c).width (sheet c).height (sheet c).count (sheet c).layers (sixteen c.before.before.before.before) c.args.layer
    c.args.canvas.now (has_passed c)

within : (c : In-Ok) → LayerWithin (layer c)
within c =
    kept_layer (sheet c).width (sheet c).height (sheet c).count (sheet c).layers (sixteen c.before.before.before.before) (told c).rules
    c.args.layer (told c).within

has_place : (c : In-Ok) → c.args.layer < 16
has_place c =
    let few = kept_few (sheet c).width (sheet c).height (sheet c).count (sheet c).layers (sixteen c.before.before.before.before) (told c).rules in
    omega (arith, (told c).within)

narrow : (c : In-Ok) → (sheet c).width ≤ wide_side
narrow c =
    omega (arith, kept_width (sheet c).width (sheet c).height (sheet c).count (sheet c).layers (sixteen c.before.before.before.before) (told c).rules)

-- the sheet with another next row for the layer, and the canvas with the layer's row at y
abbrev put : In-Ok → ℤ → Sheet
put c z =
    with_layer (sheet c) (sheet c).count c.args.layer
    (record { figure = (layer c).figure; style = (layer c).style; next_row = z })

abbrev written : In-Ok → ℤ → List ℕ
written c y =
    paint_row drawing (sheet c).width (sheet c).height (styled_figure (layer c).figure (layer c).style) y c.args.canvas.now

-- the row found is the layer's next row, as 32 bits hold it
row_is : (c : In-Ok) → c.in-Ok.row ≡ (layer c).next_row
row_is c = subst (NextRow (sheet c).layers c.args.layer) c.in-Ok.is c.asked_row-asked.ensures.next_row

row_held : (c : In-Ok) → to_z w32 (of_z w32 c.in-Ok.row) ≡ (layer c).next_row
row_held c = to_z-of_z (subst (SFits w32) (sym (row_is c)) (within c).next.fits) ∙ row_is c

-- refused
pub returns-in-Err : goal.returns-in-Err
returns-in-Err c =
    let a = c.args in
    let call = call_paint a.layer in
    let says = sym (checked c.before.before) ∙ ap asked_answer c.in-Err.is in
    record { answer_value = sym says; sheet_value = sym (refused_record a.self (sixteen c.before.before.before.before.before) a.canvas.now call _ says); canvas_after = sym (refused_canvas a.self (sixteen c.before.before.before.before.before) a.canvas.now call _ says) }

pub bounds-places-place : goal.bounds-places-place
bounds-places-place c = has_place c.before

pub paint_row-requires : goal.paint_row-requires
paint_row-requires c =
    let next = (within c.before.before.before).next in record { canvas_len = (told c.before.before.before).size; width_le_wide_side = narrow c.before.before.before; own_figure = (within c.before.before.before).figure; stroke_width_bound = (within c.before.before.before).stroke; near = rw (row_held c.before.before.before) next }

pub add-requires : goal.add-requires
add-requires c =
    let next = (within c.before.before.before.before.before.before.before).next in
    rw (row_held c.before.before.before.before.before.before.before) (omega (arith, int))

pub bounds-sheet-place : goal.bounds-sheet-place
bounds-sheet-place c = has_place c.before.before.before.before.before.before.before.before

pub returns : goal.returns
unfolding carried_out_sheet
returns c =
    let a = c.args in
    let next = row_held c.before.before.before.before.before.before.before.before in
    let moved = to_z-of_z c.add.ensures.fits ∙ c.add.ensures.is ∙ ap (λ (z : ℤ). z +ℤ pos 1) next in record {
      answer_value = sym (has_passed c.before.before.before.before.before.before.before.before);
      sheet_value = ap (put c.before.before.before.before.before.before.before.before) moved ∙ sym (painted_record a.self (sixteen c.before.before.before.before.before.before.before.before.before.before.before.before) a.canvas.now a.layer (has_passed c.before.before.before.before.before.before.before.before));
      canvas_after = ◌∙◌ {b = written c.before.before.before.before.before.before.before.before (to_z w32 (of_z w32 c.in-Ok.row))} c.paint_row.ensures
          (ap (written c.before.before.before.before.before.before.before.before) next ∙ sym (painted_canvas a.self (sixteen c.before.before.before.before.before.before.before.before.before.before.before.before) a.canvas.now a.layer (has_passed c.before.before.before.before.before.before.before.before)));
    }
