-- `figure::Figure::offset_by` meets its contract: the variant matched is the case of `offset`, and the laws of `Within` or the
-- callee carry the bounds.
use mathlib.Core.Path.{ap, sym, subst, ◌∙◌}
use mir.Facts.{to_z-of_z}
use Rattle.rectangle.specs.Rectangle.{offset as rectangle_offset}
use Rattle.figure.specs.declared.Figure.TheVariants.{Ellipse, CrateBox, W3cBox}
use Rattle.figure.specs.Bounds.{OwnFigure, AreaRectangle, AreaBox}
use Rattle.rounded_rectangle.specs.declared.ConfinedBox.{ConfinedBox}
use Rattle.rounded_rectangle.specs.ConfinedBox.{plain_box}
use Rattle.figure.specs.Figure.{offset_box, offset_w3c_box}
use Rattle.figure.proofs.Within.{own_area, area_bounded, offset_area, offset_box_bounded}
use native.Mathlib.Omega.{arith}
use Rattle.signed.proofs.Laws.{int}
use Rattle.figure.proofs.Figure.offset_by.Goals as goal

pub offset-requires : goal.offset-requires
offset-requires c =
    let near = c.requires.near in record { bounded = area_bounded _ (own_area _ (subst OwnFigure c.in-Ellipse.is c.requires.own_figure)); near = omega (arith, int) }

pub offset_box-requires : goal.offset_box-requires
offset_box-requires c =
    let near = c.requires.near in record { own_box = subst OwnFigure c.in-CrateBox.is c.requires.own_figure; near = omega (arith, int) }

pub offset_w3c_box-requires : goal.offset_w3c_box-requires
offset_w3c_box-requires c =
    let near = c.requires.near in record { own_box = subst OwnFigure c.in-W3cBox.is c.requires.own_figure; near = omega (arith, int) }

pub returns-in-Ellipse : goal.returns-in-Ellipse
returns-in-Ellipse c =
    let r = c.in-Ellipse.rectangle in
    let is = c.offset.ensures ∙ ap (rectangle_offset c.in-Ellipse.rectangle) (to_z-of_z c.ranges.k) in (
      rw c.in-Ellipse.is (ap Ellipse is),
      subst AreaRectangle (sym is) (offset_area c.in-Ellipse.rectangle c.args.k (subst OwnFigure c.in-Ellipse.is c.requires.own_figure)
          c.requires.near),
    )

pub returns-in-CrateBox : goal.returns-in-CrateBox
returns-in-CrateBox c =
    let b = c.in-CrateBox.b in
    let is = c.offset_box.ensures ∙ ap (offset_box c.in-CrateBox.b) (to_z-of_z c.ranges.k) in (
      rw c.in-CrateBox.is (ap CrateBox is),
      subst AreaBox (sym is) (offset_box_bounded c.in-CrateBox.b c.args.k (subst OwnFigure c.in-CrateBox.is c.requires.own_figure)
          c.requires.near),
    )

pub returns-in-W3cBox : goal.returns-in-W3cBox
returns-in-W3cBox c =
    let b = c.in-W3cBox.b in
    let made = c.offset_w3c_box.ensures in
    let is = c.offset_w3c_box.ensures.0 ∙ ap (offset_w3c_box c.in-W3cBox.b) (to_z-of_z c.ranges.k) in (
      rw c.in-W3cBox.is (ap W3cBox (c.plain.ensures ∙ ap (λ (q : ConfinedBox). plain_box q) is)),
      subst AreaBox (sym c.plain.ensures) c.offset_w3c_box.ensures.1,
    )
