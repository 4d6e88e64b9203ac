-- A W3C box offset outward: no radius number grows by more than k and every edge by 2k, so the grown radii fit, and fitting radii stay when
-- they are confined. A number given as 0 is 0 when it is confined, and when it grows.
-- Assumes nothing.
use mathlib.Core.Path.{◌≡◌, ap, sym, subst, ◌∙◌}
use Prim.Native.Nat.{ℕ, ◌≤◌}
use native.Mathlib.Omega.{arith}
use lib.IntN.{pos}
use Rattle.geometry.specs.declared.Size.{Size}
use Rattle.rectangle.specs.Rectangle.{with_center, offset as rectangle_offset}
use Rattle.rectangle.proofs.Offset.{offset_side_by_parts}
use Rattle.corner.specs.Growth.{grown_radius, grown_corner}
use Rattle.corner.proofs.Growth.{growth}
use Rattle.corner_radii.specs.declared.CornerRadii.{CornerRadii}
use Rattle.corner_radii.specs.Bounds.{SizeWithin}
use Rattle.corner_radii.specs.CornerRadii.{grown, spread, confine_w3c}
use Rattle.corner_radii.proofs.Rules.{w3c_fits_edges}
use Rattle.corner_radii.proofs.Fraction.{w3c_fitting_stay}
use Rattle.corner_radii.proofs.Spread.{grown_fits}
use Rattle.corner_radii.proofs.Bounds.{w3c_within}
use Rattle.rounded_rectangle.specs.declared.RoundedRectangle.{RoundedRectangle}
use Rattle.shape.specs.BoxRules.{confined_w3c, spread_box, w3c_area}
use Rattle.shape.specs.GrownBox.{SharpCorner, SharpCorners, GrownBox}

module _ (b : RoundedRectangle) (k : ℕ) where
  abbrev once : CornerRadii
  once = (confine_w3c b.corners b.rectangle.size).radii

  grown_once : (w3c_area b (pos k)).corners ≡ grown once k
  unfolding confined_w3c spread_box spread rectangle_offset with_center
  grown_once =
      w3c_fitting_stay _ _ (grown_fits once b.rectangle.size _ k
      (omega (arith, offset_side_by_parts b.rectangle.size.width (pos k)))
      (omega (arith, offset_side_by_parts b.rectangle.size.height (pos k)))
      (w3c_fits_edges b.corners b.rectangle.size))

  sharp_number : (given confined : ℕ) → confined ≤ given → given ≡ 0 → grown_radius k confined ≡ 0
  sharp_number given confined within none =
      let zero : confined ≡ 0 = omega arith in
      ap (λ (n : ℕ). grown_radius k n) zero ∙ (growth k 0).sharp

  sharp_corner : (given confined : Size) → SizeWithin confined given → SharpCorner given (grown_corner k confined)
  unfolding grown_corner
  sharp_corner given confined within =
      record { width = sharp_number _ _ within.width; height = sharp_number _ _ within.height }

  sharp_corners : SharpCorners b.corners (w3c_area b (pos k)).corners
  unfolding grown
  sharp_corners =
      let within = w3c_within b.corners b.rectangle.size in
      subst (λ (made : CornerRadii). SharpCorners b.corners made) (sym grown_once)
      (record {
        top_left = sharp_corner _ _ within.top_left;
        top_right = sharp_corner _ _ within.top_right;
        bottom_right = sharp_corner _ _ within.bottom_right;
        bottom_left = sharp_corner _ _ within.bottom_left;
      })

pub grown_box : (b : RoundedRectangle) (k : ℕ) → GrownBox b k
grown_box b k = record { grown_once = grown_once b k; sharp = sharp_corners b k }
