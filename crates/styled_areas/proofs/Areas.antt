-- An area has the test and the rows of the figure that a public offset call gives: that figure is confined once more, which changes no
-- radius.
-- Assumes nothing.
use mathlib.Core.Path.{refl, sym, ap}
use lib.IntN.{ℤ}
use Rattle.rounded_rectangle.specs.declared.RoundedRectangle.{RoundedRectangle}
use Rattle.rounded_rectangle.specs.RoundedRectangle.{contains as rounded_rectangle_contains, row as rounded_rectangle_row}
use Rattle.figure.specs.declared.Figure.{Figure}
use Rattle.figure.specs.declared.Figure.TheVariants.{Ellipse, CrateBox, W3cBox}
use Rattle.figure.proofs.Within.{confined_again_stays}
use Rattle.styled_areas.specs.Areas.{AreaIsOffset}

pub area_is_offset : (f : Figure) (k : ℤ) → AreaIsOffset f k
area_is_offset (Ellipse r) k = record { contains = λ p. refl; row = λ y. refl }
area_is_offset (CrateBox b) k = record { contains = λ p. refl; row = λ y. refl }
area_is_offset (W3cBox b) k =
    record {
      contains = λ p. ap (λ (q : RoundedRectangle). rounded_rectangle_contains q p.x p.y) (sym (confined_again_stays _));
      row = λ y. ap (λ (q : RoundedRectangle). rounded_rectangle_row q y) (sym (confined_again_stays _));
    }
