-- `SymmetricBox::fill` meets its contract: above the fill area's rows there is none, and on them one search tells what both corners
-- leave out.
use mathlib.Core.Path.{ap, ◌∙◌}
use lib.IntN.{ℤ}
use mir.Facts.{to_z-of_z}
use Rattle.geometry_range.proofs.Fields.{range_by_fields}
use Rattle.box_mirrored_fill.specs.MirroredFill.{fill_between}
use Rattle.styled_symmetric.proofs.Rows.{fill_lacking, between, fill_found}
use Rattle.styled_symmetric.proofs.SymmetricBox.fill.Goals as goal

-- above the fill area's rows
pub returns-then-dy-border : goal.returns-then-dy-border
returns-then-dy-border c =
    let end = to_z-of_z c.requires.near_run.end.fits in
    range_by_fields end end ∙ fill_lacking c.args.self c.requires.ready_symmetric c.args.dy c.requires.corner_rows_bound
    c.args.run c.if-dy-border.true

pub filled_between-requires : goal.filled_between-requires
filled_between-requires c =
    let a = c.args in
    let ready = c.requires.ready_symmetric in
    let left = ready.inner_at.x in
    let columns = between a.self ready a.dy c.requires.corner_rows_bound a.run c.if-dy-border.false
    c.corner_left_out-k.result c.corner_left_out-k.ensures in record { near = rw (to_z-of_z left.fits) left; width_le_wide_stroke_side = (ready.inner_size.width, columns.half); near_run = c.requires.near_run }

pub returns : goal.returns
returns c =
    let a = c.args in
    let k = c.corner_left_out-k.result in
    c.filled_between.ensures
    ∙ ap (λ (z : ℤ). fill_between z a.self.inner.size.width a.run c.corner_left_out-k.result) (to_z-of_z c.requires.ready_symmetric.inner_at.x.fits)
    ∙ fill_found a.self c.requires.ready_symmetric a.dy c.requires.corner_rows_bound a.run c.if-dy-border.false c.corner_left_out-k.result
    c.corner_left_out-k.ensures
