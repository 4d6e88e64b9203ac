-- `host_sheet_place::rectangle_kept` meets its contract: each number is tested as it is read.
use mathlib.Core.Path.{ap, ◌∙◌}
use mathlib.Core.Bool.{◌&&◌}
use lib.IntN.{pos, neg_ℤ}
use Rattle.geometry.specs.Limits.{max_side, max_position}
use Rattle.host_records.specs.RecordNumbers.{kind_at, x_at, y_at, width_at, height_at, ellipse_kind, w3c_box_kind, within}
use Rattle.host_records.proofs.Walks.{read_back}
use Rattle.host_sheet_place.specs.PlaceRules.{rectangle_kept}
use Rattle.host_sheet_place.proofs.rectangle_kept.Goals as goal

pub returns : goal.returns
unfolding rectangle_kept
returns c =
    let n = c.args.numbers.now in
    let at0 = c.is_within.ensures ∙ ap (within ellipse_kind w3c_box_kind) (read_back n kind_at c.is_within-arg-1.given) in
    let at1 = c.is_within-2.ensures
    ∙ ap (within (neg_ℤ (pos max_position)) (pos max_position)) (read_back n x_at c.is_within-arg-2-1.given) in
    let at2 = c.is_within-3.ensures
    ∙ ap (within (neg_ℤ (pos max_position)) (pos max_position)) (read_back n y_at c.is_within-arg-3-1.given) in
    let at3 = c.is_within-4.ensures
    ∙ ap (within (pos 0) (pos max_side)) (read_back n width_at c.is_within-arg-4-1.given) in
    let at4 = c.is_within-5.ensures ∙ ap (within (pos 0) (pos max_side)) (read_back n height_at c.is_within-arg-5-1.given) in
    λ i. (((at0 i && at1 i) && at2 i) && at3 i) && at4 i
