-- Bounds: a figure that passes its check is within the wide bounds of a figure's own numbers; the laws of `shape::box_rules` on its
-- rectangle or box are passed on. And what a figure's shape says of its confined radii.
-- Assumes nothing.
use mathlib.Core.Path.{◌≡◌, sym, ap}
use Prim.Native.Nat.{ℕ}
use native.Mathlib.Omega.{arith}
use Rattle.refusal.specs.Refusal.{or_else, answered, passed}
use Rattle.refusal.proofs.Checks.{passed_first, passed_next}
use Rattle.rectangle.specs.Bounds.{Bounded}
use Rattle.rounded_rectangle.specs.declared.ConfinedBox.{ConfinedBox}
use Rattle.shape.proofs.Within.{own_box_passed, own_rectangle_passed}
pub use Rattle.shape.proofs.Within.{point_wider, size_wider, own_area, own_box_bounded, area_bounded}
pub use Rattle.shape.proofs.Within.{area_box_bounded, offset_area, offset_box_bounded, confined_bounded, confined_w3c_bounded}
pub use Rattle.shape.proofs.Within.{confined_again_stays}
use Rattle.figure.specs.declared.Figure.{Figure}
use Rattle.figure.specs.declared.Figure.TheVariants.{Ellipse, CrateBox, W3cBox}
use Rattle.shape.specs.declared.Shape.TheVariants as shape_of
use Rattle.figure.specs.Figure.{own_rectangle, confined, confined_w3c, shape}
use Rattle.figure.specs.Bounds.{OwnFigure, BoundedFigure}
use Rattle.figure.specs.Calls.{sides_check, corners_check, place_check, figure_check, confined_radii_values, confined_values}

-- each of the three checks has passed
pub record FigureChecked (f : Figure) : Type 0 where
  pub sides : sides_check f ≡ passed
  pub corners : corners_check f ≡ passed
  pub place : place_check f ≡ passed

pub figure_checked : (f : Figure) → figure_check f ≡ passed → FigureChecked f
figure_checked f e =
    let two = passed_first (or_else (sides_check f) (corners_check f)) (place_check f) e in
    record {
      sides = passed_first (sides_check f) (corners_check f) two;
      corners = passed_next (sides_check f) (corners_check f) two;
      place = passed_next (or_else (sides_check f) (corners_check f)) (place_check f) e;
    }

pub figure_passed : (f : Figure) → figure_check f ≡ passed → OwnFigure f
figure_passed f e = by_kind f (figure_checked f e)
  where
    by_kind : (f : Figure) → FigureChecked f → OwnFigure f
    by_kind (Ellipse r) passed = own_rectangle_passed r passed.sides passed.place
    by_kind (CrateBox b) passed = own_box_passed b passed.sides passed.corners passed.place
    by_kind (W3cBox b) passed = own_box_passed b passed.sides passed.corners passed.place

pub own_figure_bounded : (f : Figure) → OwnFigure f → BoundedFigure f
own_figure_bounded (Ellipse r) o = own_area r o
own_figure_bounded (CrateBox b) o = own_box_bounded b o
own_figure_bounded (W3cBox b) o = own_box_bounded b o

-- its rectangle is bounded
pub own_rectangle_bounded : (f : Figure) → OwnFigure f → Bounded (own_rectangle f)
own_rectangle_bounded (Ellipse r) own = area_bounded r (own_area r own)
own_rectangle_bounded (CrateBox b) own = area_bounded b.rectangle (own_area b.rectangle own.rectangle)
own_rectangle_bounded (W3cBox b) own = area_bounded b.rectangle (own_area b.rectangle own.rectangle)

-- ---- confined radii by the shape
pub shape_corners : (f : Figure) (q : ConfinedBox) → shape f ≡ shape_of.RoundedBox q
    → answered (confined_radii_values q.corners) ≡ answered (confined_values f)
shape_corners (Ellipse r) q e = let z : ◌≡◌ {A = ℕ} 0 1 = cc in absurd (omega arith)
shape_corners (CrateBox b) q e =
    let is : confined b ≡ q = cc in
    ap (λ (p : ConfinedBox). answered (confined_radii_values p.corners)) (sym is)
shape_corners (W3cBox b) q e =
    let is : confined_w3c b ≡ q = cc in
    ap (λ (p : ConfinedBox). answered (confined_radii_values p.corners)) (sym is)
