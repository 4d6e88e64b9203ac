-- `paint_figures::shape_rows` meets its contract: an ellipse's rows lie within those of its area.
use native.Mathlib.Omega.{arith}
use borrow.Author.Rules.{rules}
use mathlib.Core.Path.{subst}
use Rattle.figure.specs.Bounds.{BoundedShape}
use Rattle.drawing.proofs.Rows.{ellipse_rows_within}
use Rattle.paint_figures.proofs.shape_rows.Goals as goal

pub returns-in-Ellipse-clause-near : goal.returns-in-Ellipse-clause-near
returns-in-Ellipse-clause-near c =
    let within = ellipse_rows_within c.in-Ellipse.area (subst BoundedShape c.in-Ellipse.is c.requires) in
    (search rules, omega (arith, within.count, c.row_count.ensures))
