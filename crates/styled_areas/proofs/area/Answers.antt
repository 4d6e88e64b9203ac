-- `styled_areas::area` meets its contract: the variant matched is the case of `area`, and the laws of `Within` or the callee carry the
-- bounds.
use mathlib.Core.Path.{◌≡◌, ap, sym, subst, ◌∙◌}
use mir.Facts.{to_z-of_z}
use Rattle.rectangle.specs.Rectangle.{offset as rectangle_offset}
use Rattle.shape.specs.declared.Shape.TheVariants as shape_of
use Rattle.shape.specs.BoxRules.{confined, offset_box, offset_w3c_box}
use Rattle.figure.specs.Bounds.{OwnFigure, AreaRectangle, AreaBox, ConfinedAreaBox}
use Rattle.figure.proofs.Within.{own_area, area_bounded, offset_area, offset_box_bounded, confined_bounded}
use native.Mathlib.Omega.{arith}
use Rattle.signed.proofs.Laws.{int}
use Rattle.styled_areas.proofs.area.Lts
use Rattle.styled_areas.proofs.area.Reads
use Rattle.styled_areas.proofs.area.Tie
use Rattle.styled_areas.proofs.area.Goals as goal

-- the facts known at these places
abbrev After-offset_box : Type 0
After-offset_box = Lts.After-offset_box Tie.the-claims Reads.Pre Reads.Post Tie.handed_clauses

pub offset-requires : goal.offset-requires
offset-requires c =
    let near = c.requires.near in record { bounded = area_bounded _ (own_area _ (subst OwnFigure c.in-Ellipse.is c.requires.own_figure)); near = omega (arith, int) }

pub offset_box-requires : goal.offset_box-requires
offset_box-requires c =
    let near = c.requires.near in record { own_box = subst OwnFigure c.in-CrateBox.is c.requires.own_figure; near = omega (arith, int) }

-- the crate box offset, and that its area is bounded
offset_is : (c : After-offset_box) → c.offset_box.result
    ≡ offset_box c.in-CrateBox.b c.args.k
offset_is c =
    c.offset_box.ensures
    ∙ ap (offset_box c.in-CrateBox.b) (to_z-of_z c.ranges.k)

offset_bounded : (c : After-offset_box) → AreaBox c.offset_box.result
offset_bounded c =
    subst AreaBox (sym (offset_is c))
    (offset_box_bounded _ c.args.k (subst OwnFigure c.in-CrateBox.is c.requires.own_figure) c.requires.near)

pub confined-requires : goal.confined-requires
confined-requires c = offset_bounded c

pub offset_w3c_box-requires : goal.offset_w3c_box-requires
offset_w3c_box-requires c =
    let near = c.requires.near in record { own_box = subst OwnFigure c.in-W3cBox.is c.requires.own_figure; near = omega (arith, int) }

pub returns-in-Ellipse : goal.returns-in-Ellipse
returns-in-Ellipse c =
    let r = c.in-Ellipse.rectangle in
    let is = c.offset.ensures ∙ ap (rectangle_offset c.in-Ellipse.rectangle) (to_z-of_z c.ranges.k) in (
      rw c.in-Ellipse.is (ap shape_of.Ellipse is),
      subst AreaRectangle (sym is) (offset_area c.in-Ellipse.rectangle c.args.k (subst OwnFigure c.in-Ellipse.is c.requires.own_figure)
          c.requires.near),
    )

pub returns-in-CrateBox : goal.returns-in-CrateBox
returns-in-CrateBox c =
    let is = c.confined.ensures ∙ ap confined (offset_is c.before) in (
      rw c.in-CrateBox.is (ap shape_of.RoundedBox is),
      subst ConfinedAreaBox (sym c.confined.ensures) (confined_bounded _ (offset_bounded c.before)),
    )

pub returns-in-W3cBox : goal.returns-in-W3cBox
returns-in-W3cBox c =
    let made = c.offset_w3c_box.ensures in
    let is = c.offset_w3c_box.ensures.0 ∙ ap (offset_w3c_box c.in-W3cBox.b) (to_z-of_z c.ranges.k) in
    (rw c.in-W3cBox.is (ap shape_of.RoundedBox is), c.offset_w3c_box.ensures.1)
