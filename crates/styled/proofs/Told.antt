-- What `styled_straight` tells of a box's row is told of the styled row of the figure, whichever rule confines its radii.
-- Assumes nothing.
use Rattle.scanline.specs.Rows.{StyledRow}
use mathlib.Core.Path.{◌≡◌, sym, subst}
use mathlib.Core.Logic.{◌⊎◌, ⊎_elim}
use Prim.Native.Nat.{ℕ}
use lib.IntN.{ℤ, pos, neg_ℤ}
use Rattle.rounded_rectangle.specs.declared.RoundedRectangle.{RoundedRectangle}
use Rattle.shape.specs.BoxRules.{crate_area, w3c_area}
use Rattle.figure.specs.declared.Figure.{Figure}
use Rattle.figure.specs.declared.Figure.TheVariants.{CrateBox, W3cBox}
use Rattle.figure.specs.Bounds.{OwnBox, OwnFigure}
use Rattle.styled_row.specs.StyledRow.{box_styled_row, styled_row_of_shapes}
use Rattle.style.specs.declared.Style.{Style}
use Rattle.style.specs.Style.{outside_stroke_width, inside_stroke_width}
use Rattle.styled.specs.Styled.{styled_row}
use Rattle.styled_straight.specs.StraightRow.{Told}

-- a figure is this box, of either kind
abbrev pub IsBox : Figure → RoundedRectangle → Type 0
IsBox f b = (f ≡ CrateBox b) ⊎ (f ≡ W3cBox b)

pub own_box : (f : Figure) (b : RoundedRectangle) → IsBox f b → OwnFigure f → OwnBox b
own_box f b is own = ⊎_elim (λ e. subst OwnFigure e own) (λ e. subst OwnFigure e own) is

module _ (b : RoundedRectangle) (style : Style) (y : ℤ) (r : StyledRow) (outside inside : ℕ)
    (outside_is : outside ≡ outside_stroke_width style) (inside_is : inside ≡ inside_stroke_width style) where
  crate_told : Told r (box_styled_row (crate_area b (pos outside)) (crate_area b (neg_ℤ (pos inside))) y)
      → Told r (styled_row (CrateBox b) style y)
  unfolding styled_row_of_shapes
  crate_told =
      subst (Told r)
      (λ i. box_styled_row (crate_area b (pos (outside_is i))) (crate_area b (neg_ℤ (pos (inside_is i)))) y)

  w3c_told : Told r (box_styled_row (w3c_area b (pos outside)) (w3c_area b (neg_ℤ (pos inside))) y)
      → Told r (styled_row (W3cBox b) style y)
  unfolding styled_row_of_shapes
  w3c_told =
      subst (Told r)
      (λ i. box_styled_row (w3c_area b (pos (outside_is i))) (w3c_area b (neg_ℤ (pos (inside_is i)))) y)

  pub figure_told : (f : Figure) → IsBox f b
      → Told r (box_styled_row (crate_area b (pos outside)) (crate_area b (neg_ℤ (pos inside))) y)
      → Told r (box_styled_row (w3c_area b (pos outside)) (w3c_area b (neg_ℤ (pos inside))) y)
      → Told r (styled_row f style y)
  figure_told f is crate w3c =
      ⊎_elim (λ e. subst (λ (g : Figure). Told r (styled_row g style y)) (sym e) (crate_told crate))
      (λ e. subst (λ (g : Figure). Told r (styled_row g style y)) (sym e) (w3c_told w3c)) is
