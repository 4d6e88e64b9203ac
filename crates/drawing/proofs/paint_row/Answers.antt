-- `drawing::paint_row` meets its contract: the row asked for is the definition's.
use mathlib.Core.Path.{ap, ◌∙◌}
use lib.IntN.{ℤ}
use mir.Facts.{to_z-of_z}
use Rattle.styled.specs.Styled.{styled_row}
use Rattle.drawing.specs.Drawing.{paint_by}
use Rattle.drawing.proofs.PaintRow.{paint_by_found}
use Rattle.drawing.proofs.paint_row.Goals as goal

pub row_at-requires : goal.row_at-requires
row_at-requires c =
    let near = c.requires.near in record { own_figure = c.requires.own_figure; stroke_width_bound = c.requires.stroke_width_bound; near = rw (to_z-of_z near.fits) near }

pub paint_row_on-requires : goal.paint_row_on-requires
paint_row_on-requires c =
    let near = c.requires.near in record { canvas_len = c.requires.canvas_len; width_le_wide_side = c.requires.width_le_wide_side; near = rw (to_z-of_z near.fits) near }

pub returns : goal.returns
returns c =
    let at_row_at = c.row_at in
    let a = c.args in
    let held = to_z-of_z c.requires.near.fits in
    let row = c.row_at.result in
    c.paint_row_on.ensures
    ∙ ap (λ (z : ℤ). paint_by (λ _. row) a.style a.size.width a.size.height z a.canvas.now) held
    ∙ paint_by_found a.figure a.style a.size.width a.size.height a.canvas.now row a.y
    (c.row_at.ensures ∙ ap (styled_row a.figure a.style) held)
