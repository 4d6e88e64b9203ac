-- The numbers after a call are a sheet's again, and of the sheet after it.
-- Assumes nothing.
use Rattle.refusal.specs.Refusal.{Checked}
use Rattle.std.specs.Prelude.{Ok, Err}
use mathlib.Core.Path.{◌≡◌, refl, sym, ap, ◌∙◌}
use mathlib.Core.Bool.{true, ◌&&◌}
use mathlib.Core.List.{[]}
use Prim.Native.Nat.{ℕ, ◌+◌, ◌-◌, ◌<◌}
use native.Mathlib.Omega.{arith}
use lib.Dec.{eqb}
use lib.IntN.{ℤ, pos}
use lib.ListN.{get_or, length-set}
use lib.Seq.{sets, get_or-set_same, length-sets}
use lib.Signed.{le_z}
use Rattle.signed.specs.Signed.{floor0}
use Rattle.signed.proofs.Laws.{int}
use Rattle.geometry.specs.Limits.{max_layers}
use Rattle.book.specs.Book.{paint, remove}
use Rattle.book.proofs.Tests.{and_true_parts}
use Rattle.drawing.specs.Drawing.{styled_figure}
use Rattle.sheet_layers.specs.declared.Layer.{Layer}
use Rattle.sheet_layers.specs.Layers.{blank_layer}
use Rattle.sheet.specs.Sheet.{opened_sheet, sheet_answer, with_layer, added_layer, carried_out_sheet, sheet_after}
use Rattle.host_records.specs.RecordNumbers.{is_figure, is_style, list_from, all_from, none_negative, figure_of, style_of, paint_of, alignment_of}
use Rattle.host_records.proofs.Records.{figure_length_lem, style_length_lem}
use Rattle.host_sheet_record.specs.SheetRecord.{style_at, next_row_at, count_at, sheet_length, is_sheet, holds_records, sheet_of, place_at, layer_put, place_removed}
use Rattle.host_sheet_record.proofs.Parts.{sheet_length_lem, sixteen, records_of_few, count_of_records}
use Rattle.host_sheet_record.proofs.ReadBack.{row_read_back, layer_read_back}
use Rattle.host_sheet_record.proofs.Removed.{removed_long, removed_read_back}
use Rattle.host_sheet.specs.Sheets.{unused_places, opened_numbers, next_row_of, add_of, add_numbers, paint_numbers, remove_numbers}
use Rattle.host_sheet.specs.Sheets.{OpenReadsBack, AddReadsBack, PaintReadsBack, RemoveReadsBack}
use Rattle.host_sheet.proofs.Accepted.{added_place, painted_place, painted_few, painted_next, removed_within, removed_few}

pub paint_reads_back : PaintReadsBack
unfolding paint_numbers carried_out_sheet
paint_reads_back numbers i canvas is = by (sheet_answer (sheet_of numbers) canvas (paint i)) refl
  where
    by : (a : Checked) → sheet_answer (sheet_of numbers) canvas (paint i) ≡ a
        → (is_sheet (paint_numbers numbers i canvas) ≡ true) ×
        (sheet_of (paint_numbers numbers i canvas) ≡ sheet_after (sheet_of numbers) canvas (paint i))
    by (Err refusal) e = rw (is, e) (is, refl)
    by (Ok _) e =
        let place = painted_place numbers i canvas e in
        let few = painted_few numbers i canvas e in
        let long = sheet_length_lem numbers is in
        let row = painted_next numbers i place in
        rw (is, e) (
          ap (λ (n : ℕ). eqb n sheet_length) (length-set numbers (place_at i + next_row_at) _) ∙ is,
          row_read_back numbers long i place _ (records_of_few numbers few)
              ∙ ap (λ (z : ℤ).
              with_layer (sheet_of numbers) (sheet_of numbers).count i
              (record {
                figure = (get_or (sheet_of numbers).layers i blank_layer).figure;
                style = (get_or
                    (sheet_of numbers).layers i blank_layer).style;
                next_row = z;
              })) row,
        )

pub remove_reads_back : RemoveReadsBack
unfolding remove_numbers carried_out_sheet
remove_reads_back numbers i canvas background is = by (sheet_answer (sheet_of numbers) canvas (remove i background)) refl
  where
    by : (a : Checked) → sheet_answer (sheet_of numbers) canvas (remove i background) ≡ a
        → (is_sheet (remove_numbers numbers i canvas background) ≡ true) ×
        (sheet_of (remove_numbers numbers i canvas background) ≡ sheet_after (sheet_of numbers) canvas (remove i background))
    by (Err refusal) e = rw (is, e) (is, refl)
    by (Ok _) e =
        let within = removed_within numbers i canvas background e in
        let few = removed_few numbers i canvas background e in
        let long = sheet_length_lem numbers is in
        let place : i < max_layers = omega arith in
        let records = records_of_few numbers few in
        let counted = count_of_records numbers records in
        rw (is, e) (
          ap (λ (n : ℕ). eqb n sheet_length) (length-set (place_removed numbers i) count_at _ ∙ removed_long numbers long i place),
          removed_read_back numbers long i place ((sheet_of numbers).count - 1) records (omega arith) (omega arith) (omega arith)
              background,
        )

pub add_reads_back : AddReadsBack
unfolding add_numbers carried_out_sheet
add_reads_back numbers figure style all = by (sheet_answer (sheet_of numbers) [] (add_of figure style)) refl
  where
    is : is_sheet numbers ≡ true
    is = (and_true_parts (is_sheet numbers) (is_figure figure && is_style style) all).0

    is_figure_lem : is_figure figure ≡ true
    is_figure_lem =
        (and_true_parts (is_figure figure) (is_style style) (and_true_parts (is_sheet numbers) (is_figure figure && is_style style) all).1).0

    is_style_lem : is_style style ≡ true
    is_style_lem =
        (and_true_parts (is_figure figure) (is_style style) (and_true_parts (is_sheet numbers) (is_figure figure && is_style style) all).1).1

    by : (a : Checked) → sheet_answer (sheet_of numbers) [] (add_of figure style) ≡ a
        → (is_sheet (add_numbers numbers figure style) ≡ true) ×
        (sheet_of (add_numbers numbers figure style) ≡ sheet_after (sheet_of numbers) [] (add_of figure style))
    by (Err refusal) e = rw (is, is_figure_lem, is_style_lem, e) (is, refl)
    by (Ok _) e =
        let place = added_place numbers figure style e in
        let long = sheet_length_lem numbers is in
        let records = records_of_few numbers (omega (arith, place)) in
        let row : next_row_of (carried_out_sheet (sheet_of numbers) (add_of figure style)) (sheet_of numbers).count
        ≡ (added_layer (styled_figure (figure_of figure) (style_of style))).next_row =
        ap (λ (l : Layer). l.next_row)
        (get_or-set_same (sheet_of numbers).layers (sheet_of numbers).count
        (added_layer (styled_figure (figure_of figure) (style_of style))) blank_layer (omega (arith, sixteen numbers, place))) in
        rw (is, is_figure_lem, is_style_lem, e) (
          ap (λ (n : ℕ). eqb n sheet_length)
              (length-set (layer_put numbers (sheet_of numbers).count figure style _) 2 _
              ∙ length-set (sets (sets numbers (place_at (sheet_of numbers).count) figure)
              (place_at (sheet_of numbers).count + style_at) style) (place_at (sheet_of numbers).count + next_row_at) _
              ∙ length-sets (sets numbers (place_at (sheet_of numbers).count) figure) (place_at (sheet_of numbers).count + style_at) style
              ∙ length-sets numbers (place_at (sheet_of numbers).count) figure)
              ∙ is,
          layer_read_back numbers long (sheet_of numbers).count place figure style _ _ (figure_length_lem figure is_figure_lem)
              (style_length_lem style is_style_lem)
              records (sym (count_of_records numbers records)) refl is_figure_lem is_style_lem
              ∙ ap (λ (z : ℤ).
              with_layer (sheet_of numbers) (carried_out_sheet (sheet_of numbers) (add_of figure style)).count (sheet_of numbers).count
              (record { figure = figure_of figure; style = style_of style; next_row = z })) row,
        )

pub open_reads_back : OpenReadsBack
unfolding unused_places holds_records sheet_of list_from all_from none_negative is_figure is_style figure_of style_of paint_of alignment_of
open_reads_back W H =
    let w : le_z (pos 0) (pos W) ≡ true = omega (arith, int) in
    let h : le_z (pos 0) (pos H) ≡ true = omega (arith, int) in
    let width : floor0 (pos W) ≡ W = omega arith in
    let height : floor0 (pos H) ≡ H = omega arith in
    let records : holds_records (opened_numbers W H) ≡ true = rw (w, h) in (
      refl,
      λ k. record {
        width = width k;
        height = height k;
        count = count_of_records (opened_numbers W H) records k;
        layers = (opened_sheet W H).layers;
      },
    )
