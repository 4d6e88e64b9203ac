-- `paint_figures::paint_whole` meets its contract: the kind says whose rows are painted, and the visible ones make the whole.
use mathlib.Core.Path.{ap, ◌∙◌}
use mir.Facts.{to_z-of_z}
use Rattle.std.specs.Prelude.{Some}
use Rattle.paint_figures.proofs.OnCanvas.{ready_rows_whole, ready_lacking_whole}
use Rattle.paint_figures.proofs.paint_whole.Goals as goal

pub returns-in-Some-Ellipse : goal.returns-in-Some-Ellipse
returns-in-Some-Ellipse c =
    c.paint_ellipse.ensures
    ∙ ready_rows_whole _ _ _ _ _ _ c.stroke_shape-stroke.ensures.0 c.fill_shape-fill.ensures.0 _ c.new.ensures.1 _
    c.shape_rows.ensures.value _ _ _ _ (c.in-Some-Ellipse.is ∙ ap Some c.in-Some-Ellipse.field-0-is) c.visible-seen.ensures.value
    (to_z-of_z c.visible-seen.ensures.near.0.fits)

pub returns-in-Some-RoundedBox : goal.returns-in-Some-RoundedBox
returns-in-Some-RoundedBox c =
    c.paint_box.ensures
    ∙ ready_rows_whole _ _ _ _ _ _ c.stroke_shape-stroke.ensures.0 c.fill_shape-fill.ensures.0 _ c.new.ensures.1 _
    c.shape_rows.ensures.value _ _ _ _ (c.in-Some-RoundedBox.is ∙ ap Some c.in-Some-RoundedBox.field-0-is)
    c.visible-seen.ensures.value (to_z-of_z c.visible-seen.ensures.near.0.fits)

pub returns-in-None : goal.returns-in-None
returns-in-None c =
    ready_lacking_whole _ _ _ _ _ _ c.stroke_shape-stroke.ensures.0 c.fill_shape-fill.ensures.0 _ c.new.ensures.1 _
    c.shape_rows.ensures.value _ c.in-None.is
