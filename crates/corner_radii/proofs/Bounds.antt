-- How large radii are after each change: confined ones are no larger than they were, offset ones grow by at most the
-- offset, those of a W3C box by no more than those of a crate box, and under the W3C rule no corner is larger than the box.
-- Assumes nothing.
use Prim.Native.Nat.{ℕ, ◌+◌, ◌≤◌}
use native.Mathlib.Nat.{le_refl, le_trans}
use native.Mathlib.Omega.{arith}
use lib.IntN.{ℤ, pos, negsuc}
use Rattle.signed.specs.Signed.{Near}
use Rattle.geometry.specs.declared.Size.{Size}
use Rattle.geometry.specs.Bounds.{SizeUpTo}
use Rattle.corner_radii.specs.declared.CornerRadii.{CornerRadii}
use Rattle.corner.specs.Corner.{offset_radius, offset_corner}
use Rattle.corner.specs.Growth.{grown_radius, grown_corner}
use Rattle.corner.proofs.Offset.{offset_radius_by_parts}
use Rattle.corner.proofs.Growth.{grown_at_most}
use Rattle.corner_radii.specs.Bounds.{RadiiUpTo, SizeWithin, RadiiWithin}
use Rattle.corner_radii.specs.CornerRadii.{equal_radii, each_corner, offset, grown, spread, confine, confine_w3c}
use Rattle.corner_radii.proofs.Rules.{w3c_fits_edges}
use Rattle.corner_radii.proofs.Fraction.{fractions, fraction_within}

-- ---- changes made at each corner
each_corner_up_to : (m n : ℕ) (f : Size → Size) → ((s : Size) → SizeUpTo m s → SizeUpTo n (f s))
    → (r : CornerRadii) → RadiiUpTo m r → RadiiUpTo n (each_corner f r)
each_corner_up_to m n f h r u =
    record {
      top_left = h _ u.top_left;
      top_right = h _ u.top_right;
      bottom_right = h _ u.bottom_right;
      bottom_left = h _ u.bottom_left;
    }

-- radii up to m are up to any larger n
pub radii_up_to_wider : (m n : ℕ) (r : CornerRadii) → m ≤ n → RadiiUpTo m r → RadiiUpTo n r
radii_up_to_wider m n r h u = each_corner_up_to m n (λ s. s) wider r u
  where
    wider : (s : Size) → SizeUpTo m s → SizeUpTo n s
    wider s v = record { width = le_trans v.width h; height = le_trans v.height h }

-- radii no larger than others are within the bound of those
pub radii_within_up_to : (n : ℕ) (a b : CornerRadii) → RadiiWithin a b → RadiiUpTo n b → RadiiUpTo n a
radii_within_up_to n a b w u =
    record {
      top_left = by_corner w.top_left u.top_left;
      top_right = by_corner w.top_right u.top_right;
      bottom_right = by_corner w.bottom_right u.bottom_right;
      bottom_left = by_corner w.bottom_left u.bottom_left;
    }
  where
    by_corner : {s t : Size} → SizeWithin s t → SizeUpTo n t → SizeUpTo n s
    by_corner v u = record { width = le_trans v.width u.width; height = le_trans v.height u.height }

-- the order of radii
pub radii_themselves : (r : CornerRadii) → RadiiWithin r r
radii_themselves r =
    record { top_left = itself _; top_right = itself _; bottom_right = itself _; bottom_left = itself _ }
  where
    itself : (s : Size) → SizeWithin s s
    itself s = record { width = le_refl _; height = le_refl _ }

pub radii_within_trans : {a b c : CornerRadii} → RadiiWithin a b → RadiiWithin b c → RadiiWithin a c
radii_within_trans v w =
    record {
      top_left = by_corner v.top_left w.top_left;
      top_right = by_corner v.top_right w.top_right;
      bottom_right = by_corner v.bottom_right w.bottom_right;
      bottom_left = by_corner v.bottom_left w.bottom_left;
    }
  where
    by_corner : {s t u : Size} → SizeWithin s t → SizeWithin t u → SizeWithin s u
    by_corner p q = record { width = le_trans p.width q.width; height = le_trans p.height q.height }

-- ---- confined radii
-- neither rule makes a radius larger
pub confine_within : (r : CornerRadii) (s : Size) → RadiiWithin (confine r s).radii r
confine_within r s = fraction_within (fractions r s).crate_rule

pub confine_up_to : (n : ℕ) (r : CornerRadii) (s : Size) → RadiiUpTo n r → RadiiUpTo n (confine r s).radii
confine_up_to n r s u = radii_within_up_to n (confine r s).radii r (confine_within r s) u

pub w3c_within : (r : CornerRadii) (s : Size) → RadiiWithin (confine_w3c r s).radii r
w3c_within r s = fraction_within (fractions r s).w3c_rule

pub w3c_up_to : (n : ℕ) (r : CornerRadii) (s : Size) → RadiiUpTo n r → RadiiUpTo n (confine_w3c r s).radii
w3c_up_to n r s u = radii_within_up_to n (confine_w3c r s).radii r (w3c_within r s) u

-- under the W3C rule each corner is at most as wide and as high as the box
pub w3c_within_box : (r : CornerRadii) (s : Size) → RadiiWithin (confine_w3c r s).radii (equal_radii s)
w3c_within_box r s =
    let fits = w3c_fits_edges r s in
    let top = fits.top in
    let right = fits.right in
    let bottom = fits.bottom in
    let left = fits.left in
    record {
      top_left = record { width = omega arith; height = omega arith };
      top_right = record { width = omega arith; height = omega arith };
      bottom_right = record { width = omega arith; height = omega arith };
      bottom_left = record { width = omega arith; height = omega arith };
    }

-- ---- offset radii
-- offset by at most m, radii up to n are at most n + m
pub offset_up_to : (n m : ℕ) (r : CornerRadii) (k : ℤ) → RadiiUpTo n r → Near m k → RadiiUpTo (n + m) (offset r k)
unfolding offset offset_corner
offset_up_to n m r k u near = each_corner_up_to n (n + m) (offset_corner k) by_corner r u
  where
    by_number : (x : ℕ) → x ≤ n → offset_radius k x ≤ n + m
    by_number x h = let a = near.above in omega (arith, offset_radius_by_parts k x)

    by_corner : (s : Size) → SizeUpTo n s → SizeUpTo (n + m) (offset_corner k s)
    by_corner s v = record { width = by_number _ v.width; height = by_number _ v.height }

-- those of a W3C box are no larger than those of a crate box
pub spread_within_offset : (r : CornerRadii) (k : ℤ) → RadiiWithin (spread r k) (offset r k)
unfolding spread offset grown grown_corner offset_corner
spread_within_offset r (pos k) =
    record { top_left = corner _; top_right = corner _; bottom_right = corner _; bottom_left = corner _ }
  where
    number : (x : ℕ) → grown_radius k x ≤ offset_radius (pos k) x
    number x = omega (arith, grown_at_most k x, offset_radius_by_parts (pos k) x)

    corner : (s : Size) → SizeWithin (grown_corner k s) (offset_corner (pos k) s)
    corner s = record { width = number s.width; height = number s.height }
spread_within_offset r (negsuc k) = radii_themselves (offset r (negsuc k))
