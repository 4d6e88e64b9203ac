-- How long a header is.
-- Assumes nothing.
use mathlib.Core.Path.{◌≡◌, refl}
use mathlib.Core.List.{◌++◌}
use Prim.Native.Nat.{ℕ, ◌+◌, ◌^◌, ◌≤◌, ◌<◌}
use native.Mathlib.Omega.{arith}
use lib.ListN.{length, length-append}
use Rattle.netpbm_text.specs.Decimal.{decimal}
use Rattle.netpbm_text.proofs.Decimal.{length_decimal_most, length_decimal_u32}
use Rattle.netpbm_header.specs.declared.Format.{Format}
use Rattle.netpbm_header.specs.declared.Format.TheVariants.{P4, P5}
use Rattle.netpbm_header.specs.Header.{magic, line_feed, ending, header}

pub length_opening : (format : Format) → length (magic format ++ line_feed) ≡ 3
length_opening P4 = refl
length_opening P5 = refl

pub length_ending_most : (format : Format) → length (ending format) ≤ 5
length_ending_most P4 = omega arith
length_ending_most P5 = omega arith

-- its fixed bytes and the digits of its two numbers
pub length_header : (format : Format) (W H : ℕ)
    → length (header format W H) ≡ 4 + length (ending format) + length (decimal W) + length (decimal H)
unfolding header
length_header format W H = simp length-append (omega (arith, simp length-append at (length_opening format)))

-- for sides of up to four digits at most 17 bytes
pub length_header_most : (format : Format) (W H : ℕ) → W < 10000 → H < 10000 → length (header format W H) ≤ 17
length_header_most format W H w h =
    omega (arith, length_header format W H, length_ending_most format, length_decimal_most 3 W w, length_decimal_most 3 H h)

-- at most 29 for any sides of 32 bits
pub length_header_u32 : (format : Format) (W H : ℕ) → W < 2 ^ 32 → H < 2 ^ 32 → length (header format W H) ≤ 29
length_header_u32 format W H w h =
    omega (arith, length_header format W H, length_ending_most format, length_decimal_u32 W w, length_decimal_u32 H h)
