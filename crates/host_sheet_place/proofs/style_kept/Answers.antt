-- `host_sheet_place::style_kept` meets its contract: each number is tested as it is read.
use mathlib.Core.Path.{ap, ◌∙◌}
use mathlib.Core.Bool.{◌&&◌}
use lib.IntN.{pos}
use Prim.Native.Nat.{◌+◌}
use Rattle.geometry.specs.Limits.{max_stroke_width}
use Rattle.host_records.specs.RecordNumbers.{stroke_at, fill_at, stroke_width_at, alignment_at, inside_alignment, outside_alignment, absent_paint, max_colour, within}
use Rattle.host_sheet_record.specs.SheetRecord.{style_at}
use Rattle.host_records.proofs.Walks.{read_back}
use Rattle.host_sheet_place.specs.PlaceRules.{style_kept}
use Rattle.host_sheet_place.proofs.style_kept.Goals as goal

pub returns : goal.returns
unfolding style_kept
returns c =
    let n = c.args.numbers.now in
    let at13 = c.is_within.ensures
    ∙ ap (within absent_paint max_colour) (read_back n (style_at + stroke_at) c.is_within-arg-1.given) in
    let at14 = c.is_within-2.ensures
    ∙ ap (within absent_paint max_colour) (read_back n (style_at + fill_at) c.is_within-arg-2-1.given) in
    let at15 = c.is_within-3.ensures
    ∙ ap (within (pos 0) (pos max_stroke_width)) (read_back n (style_at + stroke_width_at) c.is_within-arg-3-1.given) in
    let at16 = c.is_within-4.ensures ∙ ap (within inside_alignment outside_alignment)
    (read_back n (style_at + alignment_at) c.is_within-arg-4-1.given) in
    λ i. ((at13 i && at14 i) && at15 i) && at16 i
