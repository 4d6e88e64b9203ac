-- `host_sheet_paint::paint_next` meets its contract: a call that is accepted has a layer within bounds, whose row is painted.
use mathlib.Core.Path.{◌≡◌, sym, ap, ap₂, subst, ◌∙◌}
use mathlib.Core.List.{List}
use Prim.Native.Nat.{ℕ, ◌+◌, ◌*◌, ◌<◌, ◌≤◌}
use native.Mathlib.Omega.{arith}
use borrow.Author.Rules.{rules}
use lib.IntN.{ℤ, pos, ◌+ℤ◌}
use lib.ListN.{set, get_or, length-set}
use mir.Facts.{to_z-of_z}
use Rattle.geometry.specs.Limits.{max_layers}
use Rattle.signed.proofs.Laws.{int}
use Rattle.geometry.specs.Bounds.{wide_side}
use Rattle.book.specs.Sheet.{paint_row}
use Rattle.styled.specs.Styled.{styled_row}
use Rattle.drawing.specs.Drawing.{styled_figure, paint_by, drawing}
use Rattle.drawing.proofs.PaintRow.{paint_by_found}
use Rattle.sheet_layers.specs.declared.Layer.{Layer}
use Rattle.sheet_layers.specs.Layers.{blank_layer}
use Rattle.sheet_layers.proofs.LayerRules.{LayerWithin}
use Rattle.sheet_checks.proofs.Places.{kept_few, kept_layer, kept_width}
use Rattle.sheet_checks.proofs.Answers.{PaintAccepted, painted_accepted}
use Rattle.sheet.specs.declared.Sheet.{Sheet}
use Rattle.sheet.proofs.Records.{painted_canvas}
use Rattle.host_sheet_record.specs.SheetRecord.{next_row_at, place_at, sheet_of}
use Rattle.host_sheet_record.proofs.Parts.{sixteen}
use Rattle.host_sheet_record.proofs.ReadBack.{layer_in_place}
use Rattle.host_sheet_paint.proofs.paint_next.Lts
use Rattle.host_sheet_paint.proofs.paint_next.Reads
use Rattle.host_sheet_paint.proofs.paint_next.Tie
use Rattle.host_sheet_paint.proofs.paint_next.Goals as goal

-- the facts known at these places
abbrev Start : Type 0
Start = Lts.Start Tie.the-claims Reads.Pre Reads.Post Tie.handed_clauses

abbrev After-layer_at-chosen : Type 0
After-layer_at-chosen = Lts.After-layer_at Tie.the-claims Reads.Pre Reads.Post Tie.handed_clauses

abbrev sheet : Start → Sheet
sheet c = sheet_of c.args.numbers.now

told : (c : Start) → PaintAccepted (sheet c).width (sheet c).height (sheet c).count (sheet c).layers
    (sixteen c.args.numbers.now) c.args.layer c.args.canvas.now
told c =
    painted_accepted (sheet c).width (sheet c).height (sheet c).count (sheet c).layers (sixteen c.args.numbers.now)
    c.args.layer c.args.canvas.now c.requires.layer_value

place : (c : Start) → c.args.layer < max_layers
place c =
    let few = kept_few (sheet c).width (sheet c).height (sheet c).count (sheet c).layers (sixteen c.args.numbers.now)
    (told c).rules in
    let within = (told c).within in
    omega arith

narrow : (c : Start) → (sheet c).width ≤ wide_side
narrow c =
    omega (
      arith,
      kept_width (sheet c).width (sheet c).height (sheet c).count (sheet c).layers (sixteen c.args.numbers.now)
          (told c).rules,
    )

chosen_is : (c : After-layer_at-chosen) → c.layer_at-chosen.result ≡ get_or (sheet c.before.before).layers c.args.layer blank_layer
chosen_is c = c.layer_at-chosen.ensures ∙ sym (layer_in_place c.args.numbers.now c.args.layer (place c.before.before))

within : (c : After-layer_at-chosen) → LayerWithin c.layer_at-chosen.result
within c =
    subst LayerWithin (sym (chosen_is c))
    (kept_layer (sheet c.before.before).width (sheet c.before.before).height (sheet c.before.before).count (sheet c.before.before).layers (sixteen c.args.numbers.now) (told c.before.before).rules
    c.args.layer (told c.before.before).within)

pub layer_at-chosen-requires : goal.layer_at-chosen-requires
layer_at-chosen-requires c = (c.requires.numbers_len, place c.before.before)

pub row_at-requires : goal.row_at-requires
row_at-requires c =
    let next = (within c.before.before.before.before).next in record { own_figure = (within c.before.before.before.before).figure; stroke_width_bound = (within c.before.before.before.before).stroke; near = rw (to_z-of_z next.fits) next }

pub paint_row_on-requires : goal.paint_row_on-requires
paint_row_on-requires c =
    let size = c.size_of-size.ensures in
    let next = (within c.before.before.before.before.before).next in record { canvas_len = (told c.before.before.before.before.before.before.before).size ∙ sym (ap₂ ◌*◌ c.size_of-size.ensures.0 c.size_of-size.ensures.1); width_le_wide_side = rw c.size_of-size.ensures.0 (narrow c.before.before.before.before.before.before.before); near = rw (to_z-of_z next.fits) next }

pub add-requires : goal.add-requires
add-requires c =
    let next = (within c.before.before.before.before.before.before.before.before.before).next in
    rw (to_z-of_z next.fits) (omega (arith, int))

pub bounds-numbers-place : goal.bounds-numbers-place
bounds-numbers-place c =
    let within = place c.before.before.before.before.before.before.before.before.before.before.before.before in
    let long = c.requires.numbers_len in
    omega arith

pub shape_of-numbers : goal.shape_of-numbers
shape_of-numbers c = simp length-set (search rules)

-- the canvas with a layer's row at its next row, on a canvas of this size
abbrev written : List ℕ → ℕ → ℕ → Layer → List ℕ
written canvas W H l = paint_row drawing W H (styled_figure l.figure l.style) l.next_row canvas

pub returns : goal.returns
returns c =
    let a = c.args in
    let layer = c.layer_at-chosen.result in
    let made = c.size_of-size.result in
    let size = c.size_of-size.ensures in
    let row = c.row_at in
    let held = to_z-of_z (within c.before.before.before.before.before.before.before.before.before.before).next.fits in record {
      numbers_after = ap (λ (z : ℤ). set a.numbers.now (place_at a.layer + next_row_at) z)
          (to_z-of_z c.add.ensures.fits ∙ c.add.ensures.is ∙ ap (λ (z : ℤ). z +ℤ pos 1)
          (held ∙ ap (λ (l : Layer). l.next_row) c.layer_at-chosen.ensures));
      canvas_after = c.paint_row_on.ensures
          ∙ ap (λ (z : ℤ). paint_by (λ _. c.row_at.result) c.layer_at-chosen.result.style c.size_of-size.result.width c.size_of-size.result.height z a.canvas.now) held
          ∙ paint_by_found c.layer_at-chosen.result.figure c.layer_at-chosen.result.style c.size_of-size.result.width c.size_of-size.result.height a.canvas.now c.row_at.result c.layer_at-chosen.result.next_row
          (c.row_at.ensures ∙ ap (styled_row c.layer_at-chosen.result.figure c.layer_at-chosen.result.style) held)
          ∙ (λ k. written a.canvas.now (c.size_of-size.ensures.0 k) (c.size_of-size.ensures.1 k) (chosen_is c.before.before.before.before.before.before.before.before.before.before k))
          ∙ sym (painted_canvas (sheet c.before.before.before.before.before.before.before.before.before.before.before.before) (sixteen a.numbers.now) a.canvas.now a.layer c.requires.layer_value);
    }
