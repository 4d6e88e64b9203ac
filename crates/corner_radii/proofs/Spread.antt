-- The radii of a W3C box offset by k, by the parts of k: outward and inward. By 0 both ways give the same. Outward they fit a box whose
-- sides grow by 2k, if they fitted before.
-- Assumes nothing.
use mathlib.Core.Path.{◌≡◌, refl, ap}
use Prim.Native.Nat.{ℕ, ◌+◌, ◌*◌, ◌≤◌}
use native.Mathlib.Omega.{arith}
use lib.IntN.{ℤ, pos, negsuc}
use Rattle.signed.specs.Signed.{positive_part as P, negative_part as N}
use Rattle.geometry.specs.declared.Size.{Size}
use Rattle.corner.specs.Edge.{FitsEdges}
use Rattle.corner.specs.Corner.{offset_radius, offset_corner}
use Rattle.corner.specs.Growth.{grown_radius, grown_corner}
use Rattle.corner.proofs.Offset.{offset_radius_by_parts}
use Rattle.corner.proofs.Growth.{grown_whole, grown_at_most}
use Rattle.corner_radii.specs.declared.CornerRadii.{CornerRadii}
use Rattle.corner_radii.specs.CornerRadii.{offset, grown, spread, edges}
use Rattle.corner_radii.proofs.Fields.{corner_radii_by_fields}

pub spread_outward : (r : CornerRadii) (k : ℤ) (n : ℕ) → n + N k ≡ P k → grown r n ≡ spread r k
unfolding spread
spread_outward r (pos k) n h = let same : n ≡ k = omega arith in ap (grown r) same
spread_outward r (negsuc k) n h = absurd (omega arith)

pub spread_inward : (r : CornerRadii) (k : ℤ) → P k ≤ N k → offset r k ≡ spread r k
unfolding spread offset offset_corner grown grown_corner
spread_inward r (pos k) h = corner_radii_by_fields (corner _) (corner _) (corner _) (corner _)
  where
    number : (x : ℕ) → offset_radius (pos k) x ≡ grown_radius k x
    number x = omega (arith, offset_radius_by_parts (pos k) x, grown_whole k x (omega arith))

    corner : (s : Size) → offset_corner (pos k) s ≡ grown_corner k s
    corner s i = record { width = number s.width i; height = number s.height i }
spread_inward r (negsuc k) h = refl

pub grown_fits : (r : CornerRadii) (s t : Size) (k : ℕ) → t.width ≡ s.width + 2 * k → t.height ≡ s.height + 2 * k
    → FitsEdges (edges r s) → FitsEdges (edges (grown r k) t)
unfolding grown grown_corner
grown_fits r s t k wider higher fits =
    record {
      top = let f = fits.top in omega (arith, most r.top_left.width, most r.top_right.width);
      right = let f = fits.right in omega (arith, most r.top_right.height, most r.bottom_right.height);
      bottom = let f = fits.bottom in omega (arith, most r.bottom_left.width, most r.bottom_right.width);
      left = let f = fits.left in omega (arith, most r.top_left.height, most r.bottom_left.height);
    }
  where
    most : (x : ℕ) → grown_radius k x ≤ x + k
    most = grown_at_most k
