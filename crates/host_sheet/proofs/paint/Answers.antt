-- `host_sheet::paint` meets its contract: the check made is the answer; passed, the layer's row is painted and its next row written.
use mathlib.Core.Path.{refl, sym, ◌∙◌}
use Rattle.book.specs.Book.{paint as call_paint}
use Rattle.sheet.proofs.Records.{refused_canvas}
use Rattle.host_sheet_record.specs.SheetRecord.{sheet_of}
use Rattle.host_sheet_record.proofs.Parts.{sheet_length_lem, sixteen}
use Rattle.host_sheet.specs.Sheets.{paint_told, paint_numbers, paint_canvas}
use Rattle.host_sheet.proofs.Accepted.{painted_numbers}
use Rattle.host_sheet.proofs.paint.Goals as goal

pub returns-then-not-is_sheet : goal.returns-then-not-is_sheet
unfolding paint_told paint_numbers paint_canvas
returns-then-not-is_sheet c = rw (sym c.is_sheet.ensures ∙ c.if-not-is_sheet.true) (record { value = refl; sheet_after = refl; canvas_after = refl })

-- refused
pub returns-in-Err : goal.returns-in-Err
unfolding paint_told paint_numbers paint_canvas
returns-in-Err c =
    let a = c.args in
    let refused = sym (c.check_paint.ensures a.canvas.now refl) ∙ c.in-Err.is in
    rw (sym c.is_sheet.ensures ∙ c.if-not-is_sheet.false, refused) (record {
      value = c.number.ensures;
      sheet_after = refl;
      canvas_after = sym (refused_canvas (sheet_of a.sheet.now) (sixteen a.sheet.now) a.canvas.now (call_paint a.layer) _ refused);
    })

pub paint_next-requires : goal.paint_next-requires
paint_next-requires c = record {
  numbers_len = sheet_length_lem c.args.sheet.now (sym c.is_sheet.ensures ∙ c.if-not-is_sheet.false);
  layer_value = sym (c.check_paint.ensures c.args.canvas.now refl) ∙ c.in_default.is;
}

-- accepted
pub returns : goal.returns
unfolding paint_told paint_numbers paint_canvas
returns c =
    let a = c.args in
    let accepted = sym (c.check_paint.ensures a.canvas.now refl) ∙ c.in_default.is in
    rw (sym c.is_sheet.ensures ∙ c.if-not-is_sheet.false, accepted) (record {
      value = refl;
      sheet_after = c.paint_next.ensures.numbers_after ∙ painted_numbers a.sheet.now a.layer a.canvas.now accepted;
      canvas_after = c.paint_next.ensures.canvas_after;
    })
