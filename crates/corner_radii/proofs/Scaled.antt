-- Radii times L / S, floored: 1 over 1 changes none; where L ≤ S none grows; where L < S only those that are 0 stay.
-- Assumes nothing.
use mathlib.Core.Path.{◌≡◌, subst}
use Prim.Native.Nat.{ℕ, ◌*◌, ◌/◌, ◌≤◌, ◌<◌}
use native.Mathlib.Nat.{mul_comm, mul-le-mul_left, mul-lt-mul_of_pos_left, div-le_of_le-mul, div-mul-le_self}
use native.Mathlib.Decide.{dec_le}
use native.Mathlib.Omega.{arith}
use Rattle.geometry.specs.declared.Size.{Size}
use Rattle.corner.specs.Corner.{scaled_corner}
use Rattle.corner_radii.specs.declared.CornerRadii.{CornerRadii}
use Rattle.corner_radii.specs.Bounds.{SizeWithin, RadiiWithin}
use Rattle.corner_radii.specs.CornerRadii.{scaled}
use Rattle.corner_radii.proofs.Fields.{corner_radii_by_fields}

-- floor(r × 1 / 1) is r
pub scaled_by_one : (r : CornerRadii) → scaled 1 1 r ≡ r
unfolding scaled scaled_corner
scaled_by_one r = corner_radii_by_fields (corner _) (corner _) (corner _) (corner _)
  where
    number : (n : ℕ) → n * 1 / 1 ≡ n
    number n = omega arith

    corner : (s : Size) → scaled_corner 1 1 s ≡ s
    corner s i = record { width = number s.width i; height = number s.height i }

-- floor(r × l / s) is at most r where l ≤ s
scaled_number_le : (r l s : ℕ) → l ≤ s → r * l / s ≤ r
scaled_number_le r l s h = div-le_of_le-mul s (omega (arith, mul-le-mul_left r h, mul_comm r s))

pub scaled_within : (l s : ℕ) (r : CornerRadii) → l ≤ s → RadiiWithin (scaled l s r) r
unfolding scaled scaled_corner
scaled_within l s r h =
    record {
      top_left = corner r.top_left;
      top_right = corner r.top_right;
      bottom_right = corner r.bottom_right;
      bottom_left = corner r.bottom_left;
    }
  where
    corner : (q : Size) → SizeWithin (scaled_corner l s q) q
    corner q = record { width = scaled_number_le _ _ _ h; height = scaled_number_le _ _ _ h }

-- and is r, where l < s, only if r is 0
pub scaled_number_stays : (r l s : ℕ) → l < s → r * l / s ≡ r → r ≡ 0
scaled_number_stays r l s h e = by_size (dec_le r 0)
  where
    by_size : Dec (r ≤ 0) → r ≡ 0
    by_size (yes z) = omega arith
    by_size (no n) =
        let p : 0 < r = omega arith in
        let times_s : r * s ≤ r * l = subst (λ (q : ℕ). q * s ≤ r * l) e (div-mul-le_self (r * l) s) in
        absurd (omega (arith, mul-lt-mul_of_pos_left h p))
