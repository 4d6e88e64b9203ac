-- `figure::Figure::shape` meets its contract: the variant matched is the case of `shape`, and confining keeps the bounds.
use mathlib.Core.Path.{ap, sym, subst}
use Rattle.shape.specs.declared.Shape.TheVariants.{RoundedBox}
use Rattle.figure.specs.Bounds.{BoundedFigure, ConfinedAreaBox}
use Rattle.figure.proofs.Within.{confined_bounded, confined_w3c_bounded}
use Rattle.figure.proofs.Figure.shape.Goals as goal

pub confined-requires : goal.confined-requires
confined-requires c = subst BoundedFigure c.in-CrateBox.is c.requires

pub confined_w3c-requires : goal.confined_w3c-requires
confined_w3c-requires c = subst BoundedFigure c.in-W3cBox.is c.requires

pub returns-in-Ellipse : goal.returns-in-Ellipse
returns-in-Ellipse c = (rw c.in-Ellipse.is, subst BoundedFigure c.in-Ellipse.is c.requires)

pub returns-in-CrateBox : goal.returns-in-CrateBox
returns-in-CrateBox c =
    let at_pre = c.requires in (
      rw c.in-CrateBox.is (ap RoundedBox c.confined.ensures),
      subst ConfinedAreaBox (sym c.confined.ensures)
          (confined_bounded _ (subst BoundedFigure c.in-CrateBox.is (at_pre))),
    )

pub returns-in-W3cBox : goal.returns-in-W3cBox
returns-in-W3cBox c =
    let at_pre = c.requires in (
      rw c.in-W3cBox.is (ap RoundedBox c.confined_w3c.ensures),
      subst ConfinedAreaBox (sym c.confined_w3c.ensures)
          (confined_w3c_bounded _ (subst BoundedFigure c.in-W3cBox.is (at_pre))),
    )
