-- `host_sheet::add` meets its contract: the figure is added to the sheet that the numbers are, and the new layer and count written
-- back.
use mathlib.Core.Path.{◌≡◌, refl, sym, ap, ap₂, ◌∙◌}
use mathlib.Core.List.{List, []}
use Prim.Native.Nat.{ℕ, ◌<◌}
use lib.IntN.{ℤ, pos}
use lib.ListN.{set}
use mir.Syntax.{w32}
use mir.Facts.{to_z-of_z}
use Rattle.refusal.specs.Refusal.{Checked, passed, answer_number}
use Rattle.geometry.specs.Limits.{max_layers}
use Rattle.book.specs.Book.{add as call_add}
use Rattle.figure.specs.declared.Figure.{Figure}
use Rattle.style.specs.declared.Style.{Style}
use Rattle.sheet.specs.declared.Sheet.{Sheet}
use Rattle.sheet.specs.Sheet.{sheet_answer, carried_out_sheet, sheet_after}
use Rattle.sheet.proofs.Records.{added_record}
use Rattle.drawing.specs.Drawing.{styled_figure}
use Rattle.host_records.specs.RecordNumbers.{figure_of, style_of}
use Rattle.host_records.proofs.Records.{figure_length_lem, style_length_lem}
use Rattle.host_sheet_record.specs.SheetRecord.{count_at, sheet_of, layer_put}
use Rattle.host_sheet_record.proofs.Parts.{sheet_length_lem, sixteen}
use Rattle.host_sheet.specs.Sheets.{next_row_of, add_of, add_told, add_numbers}
use Rattle.host_sheet.proofs.Accepted.{added_place, added_count}
use native.Mathlib.Omega.{arith}
use borrow.Author.Rules.{rules}
use Rattle.host_sheet.proofs.add.Goals as goal

-- what the call answers, and the sheet after it, by the numbers that were read
module _ (n figure style : List ℤ) {s after : Sheet} {f : Figure} {st : Style} {answer : Checked} (s_is : s ≡ sheet_of n) (f_is : f ≡ figure_of figure)
    (st_is : st ≡ style_of style) (answer_value : answer ≡ sheet_answer s [] (call_add (styled_figure f st)))
    (sheet_value : after ≡ sheet_after s [] (call_add (styled_figure f st))) where
  says : answer ≡ sheet_answer (sheet_of n) [] (add_of figure style)
  says = answer_value ∙ (λ i. sheet_answer (s_is i) [] (call_add (styled_figure (f_is i) (st_is i))))

  after_is : after ≡ sheet_after (sheet_of n) [] (add_of figure style)
  after_is = sheet_value ∙ (λ i. sheet_after (s_is i) [] (call_add (styled_figure (f_is i) (st_is i))))

  -- accepted, there is a place for the layer
  module _ (told : answer ≡ passed) where
    accepted : sheet_answer (sheet_of n) [] (add_of figure style) ≡ passed
    accepted = sym says ∙ told

    carried : after ≡ carried_out_sheet (sheet_of n) (add_of figure style)
    carried = after_is ∙ added_record (sheet_of n) (sixteen n) [] (styled_figure (figure_of figure) (style_of style)) accepted

    count_is : s.count ≡ (sheet_of n).count
    count_is = ap (λ (t : Sheet). t.count) s_is

    place : s.count < max_layers
    place =
        let within = added_place n figure style accepted in
        let same = count_is in
        omega arith

pub returns-then-not-is_sheet : goal.returns-then-not-is_sheet
unfolding add_told add_numbers
returns-then-not-is_sheet c = rw (sym c.is_sheet.ensures ∙ c.if-not-is_sheet.true) (record { value = refl; sheet_after = refl })

pub returns-then-not-is_figure : goal.returns-then-not-is_figure
unfolding add_told add_numbers
returns-then-not-is_figure c =
    rw (sym c.is_sheet.ensures ∙ c.if-not-is_sheet.false, sym c.is_figure.ensures ∙ c.if-not-is_figure.true)
    (record { value = refl; sheet_after = refl })

pub returns-then-not-is_style : goal.returns-then-not-is_style
unfolding add_told add_numbers
returns-then-not-is_style c =
    rw (
      sym c.is_sheet.ensures ∙ c.if-not-is_sheet.false,
      sym c.is_figure.ensures ∙ c.if-not-is_figure.false,
      sym c.is_style.ensures ∙ c.if-not-is_style.true,
    ) (record { value = refl; sheet_after = refl })

pub figure_of-requires : goal.figure_of-requires
figure_of-requires c = figure_length_lem c.args.figure.now (sym c.is_figure.ensures ∙ c.if-not-is_figure.false)

pub style_of-requires : goal.style_of-requires
style_of-requires c = style_length_lem c.args.style.now (sym c.is_style.ensures ∙ c.if-not-is_style.false)

pub returns-in_default : goal.returns-in_default
unfolding add_told add_numbers
returns-in_default c =
    let a = c.args in
    let refused =
    sym (says a.sheet.now a.figure.now a.style.now c.sheet_of-before.ensures c.figure_of.ensures c.style_of.ensures c.add-made.ensures.answer_value
    c.add-made.ensures.sheet_value)
    ∙ c.in_default.is in
    rw (
      sym c.is_sheet.ensures ∙ c.if-not-is_sheet.false,
      sym c.is_figure.ensures ∙ c.if-not-is_figure.false,
      sym c.is_style.ensures ∙ c.if-not-is_style.false,
      refused,
    ) (record { value = c.number_of.ensures ∙ ap answer_number c.in_default.is; sheet_after = refl })

pub bounds-places-place : goal.bounds-places-place
bounds-places-place c =
    let a = c.args in
    place a.sheet.now a.figure.now a.style.now c.sheet_of-before.ensures c.figure_of.ensures c.style_of.ensures c.add-made.ensures.answer_value
    c.add-made.ensures.sheet_value c.in-Ok.is

pub put_layer-requires : goal.put_layer-requires
put_layer-requires c =
    let a = c.args in
    let within =
    place a.sheet.now a.figure.now a.style.now c.sheet_of-before.ensures c.figure_of.ensures c.style_of.ensures c.add-made.ensures.answer_value
    c.add-made.ensures.sheet_value c.in-Ok.is in
    record {
      numbers_len = (sheet_length_lem a.sheet.now (sym c.is_sheet.ensures ∙ c.if-not-is_sheet.false), within);
      figure_len = (
        figure_length_lem a.figure.now (sym c.is_figure.ensures ∙ c.if-not-is_figure.false),
        style_length_lem a.style.now (sym c.is_style.ensures ∙ c.if-not-is_style.false),
      );
    }

pub from_u32-requires : goal.from_u32-requires
from_u32-requires c =
    let a = c.args in
    let few =
    added_count a.sheet.now a.figure.now a.style.now
    (accepted a.sheet.now a.figure.now a.style.now c.sheet_of-before.ensures c.figure_of.ensures c.style_of.ensures c.add-made.ensures.answer_value
    c.add-made.ensures.sheet_value c.in-Ok.is) in
    let same =
    ap (λ (s : Sheet). s.count)
    (after_is a.sheet.now a.figure.now a.style.now c.sheet_of-before.ensures c.figure_of.ensures c.style_of.ensures c.add-made.ensures.answer_value
    c.add-made.ensures.sheet_value) in
    omega arith

pub returns : goal.returns
unfolding add_told add_numbers
returns c =
    let a = c.args in
    let count =
    count_is a.sheet.now a.figure.now a.style.now c.sheet_of-before.ensures c.figure_of.ensures c.style_of.ensures c.add-made.ensures.answer_value
    c.add-made.ensures.sheet_value c.in-Ok.is in
    let sheet =
    carried a.sheet.now a.figure.now a.style.now c.sheet_of-before.ensures c.figure_of.ensures c.style_of.ensures c.add-made.ensures.answer_value
    c.add-made.ensures.sheet_value c.in-Ok.is in
    rw (
      sym c.is_sheet.ensures ∙ c.if-not-is_sheet.false,
      sym c.is_figure.ensures ∙ c.if-not-is_figure.false,
      sym c.is_style.ensures ∙ c.if-not-is_style.false,
      accepted a.sheet.now a.figure.now a.style.now c.sheet_of-before.ensures c.figure_of.ensures c.style_of.ensures c.add-made.ensures.answer_value
          c.add-made.ensures.sheet_value c.in-Ok.is,
    ) (record {
      value = refl;
      sheet_after = ap₂ (λ (l : List ℤ) (z : ℤ). set l count_at z)
          (c.put_layer.ensures
          ∙ ap₂ (λ (k : ℕ) (z : ℤ). layer_put a.sheet.now k a.figure.now a.style.now z) count
          (to_z-of_z {w = w32} (search rules) ∙ ap₂ (λ (s : Sheet) (k : ℕ). next_row_of s k) sheet count))
          (to_z-of_z c.from_u32.ensures.fits ∙ c.from_u32.ensures.is ∙ ap (λ (s : Sheet). pos s.count) sheet);
    })
