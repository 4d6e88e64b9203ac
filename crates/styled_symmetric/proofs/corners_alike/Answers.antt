-- `styled_symmetric::corners_alike` meets its contract: a box each of whose corners is like the top-left one has four alike.
use Rattle.box_mirrored.proofs.Sides.{alike_equal}
use mathlib.Core.Path.{◌≡◌, sym}
use Rattle.corner_radii.specs.declared.CornerRadii.{CornerRadii}
use Rattle.styled_symmetric.specs.SymmetricBox.{four_corners}
use Rattle.styled_symmetric.proofs.corners_alike.Goals as goal

four_alike : (c : CornerRadii) → c.top_left ≡ c.top_right → c.top_left ≡ c.bottom_right → c.top_left
    ≡ c.bottom_left
    → c ≡ four_corners c.top_left
four_alike c right across below i =
    record { top_left = c.top_left; top_right = sym right i; bottom_right = sym across i; bottom_left = sym below i }

pub returns-then-are_alike-2 : goal.returns-then-are_alike-2
returns-then-are_alike-2 c =
    λ e. four_alike _ (alike_equal c.are_alike.ensures c.if-are_alike.true)
    (alike_equal c.are_alike-then-are_alike.ensures c.if-are_alike-2.true) (alike_equal c.are_alike-then-are_alike-2.ensures e)
