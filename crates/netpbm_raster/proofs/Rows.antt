-- Laws of packed and unpacked rows: how long they are, and the steps of the loops that write them.
-- Assumes nothing.
use mathlib.Core.Path.{◌≡◌, refl, sym, ap, ◌∙◌}
use mathlib.Core.List.{List, [], ◌∷◌, ◌++◌, append_assoc, append-nil}
use Prim.Native.Nat.{ℕ, zero, suc, ◌+◌, ◌*◌, ◌-◌, ◌≤◌, ◌<◌, ◌^◌}
use native.Mathlib.Nat.{suc-mul, mul-le-mul}
use native.Mathlib.Numerals.{add-one}
use native.Mathlib.Omega.{arith}
use lib.ListN.{length, take, drop, get_or, set, length-append, length-take, length-drop, drop_of_length-le}
use lib.Seq.{sets, drop-cons, take_at, take-append-le, take-append-add, take_all, length-take-le, drop-drop}
use Rattle.netpbm_header.specs.declared.Format.{Format}
use Rattle.netpbm_header.specs.declared.Format.TheVariants.{P4, P5}
use Rattle.netpbm_text.proofs.Written.{sets_append}
use Rattle.netpbm_raster.specs.Raster.{packed_byte, packed_bytes, row_bytes, raster_length, packed_row, packed_rows, pixels_of, unpacked, unpacked_row, unpacked_rows}
use Rattle.netpbm_raster.specs.Steps.{shifted_out}
use Rattle.netpbm_raster.proofs.Bits.{shifted_first, shifted_pixels}

-- the part at..e of a list, as it is lent
pub part_length : (l : List ℕ) (at e : ℕ) → at ≤ e → e ≤ length l → length (take (e - at) (drop at l)) ≡ e - at
part_length l at e order within = length-take-le (e - at) (drop at l) (simp length-drop (omega arith))

-- a list of which the part at..e has been written over by ys: it is as long as before, and up to e it is known
module _ (l ys : List ℕ) (at e : ℕ) (order : at ≤ e) (within : e ≤ length l) (long : length ys ≡ e - at) where
  pub over_part_length : length (take at l ++ (ys ++ drop (e - at) (drop at l))) ≡ length l
  over_part_length = simp (length-append, length-take, length-drop) (omega arith)

  pub over_part_front : take e (take at l ++ (ys ++ drop (e - at) (drop at l))) ≡ take at l ++ ys
  over_part_front =
      let front : length (take at l ++ ys) ≡ e = simp length-append (rw (length-take-le at l (omega arith)) (omega arith)) in
      rw (← append_assoc) (take_at (take at l ++ ys) _ e front)

-- the bytes of a packed row, and of packed rows
pub length_packed_bytes : (n : ℕ) (row : List ℕ) → length (packed_bytes n row) ≡ n
unfolding packed_bytes
length_packed_bytes zero row = refl
length_packed_bytes (suc n) row = ap suc (length_packed_bytes n (drop 8 row))

pub length_packed_rows : (W H : ℕ) (canvas : List ℕ) → length (packed_rows W H canvas) ≡ H * row_bytes W
unfolding packed_rows
length_packed_rows W zero canvas = omega arith
length_packed_rows W (suc H) canvas =
    simp length-append
    (rw (length_packed_bytes, length_packed_rows W H (drop W canvas)) (omega (arith, one_more_lem H (row_bytes W))))
  where
    one_more_lem : (n m : ℕ) → suc n * m ≡ m + n * m
    one_more_lem n m = omega (arith, suc-mul n m)

-- a turn of the loop that puts a row, and its end
pub put_turn : (out row : List ℕ) (next left from : ℕ) → 0 < left
    → sets out next (packed_bytes left (drop from row))
    ≡ sets (set out next (packed_byte (drop from row))) (next + 1) (packed_bytes (left - 1) (drop (from + 8) row))
unfolding packed_bytes
put_turn out row next zero from h = absurd (omega arith)
put_turn out row next (suc left) from h =
    let less : suc left - 1 ≡ left = omega arith in
    rw (less, add-one, ← drop-drop)

-- the same after j of n bytes
pub counted_put_turn : (out row : List ℕ) (at j n : ℕ) → j < n
    → sets out (at + j) (packed_bytes (n - j) (drop (8 * j) row))
    ≡ sets (set out (at + j) (packed_byte (drop (8 * j) row))) (at + (j + 1)) (packed_bytes (n - (j + 1)) (drop (8 * (j + 1)) row))
counted_put_turn out row at j n h =
    let next : at + j + 1 ≡ at + (j + 1) = omega arith in
    let left : n - j - 1 ≡ n - (j + 1) = omega arith in
    let from : 8 * j + 8 ≡ 8 * (j + 1) = omega arith in
    put_turn out row (at + j) (n - j) (8 * j) (omega arith)
    ∙ (λ i. sets (set out (at + j) (packed_byte (drop (8 * j) row))) (next i) (packed_bytes (left i) (drop (from i) row)))

pub put_end : (out row : List ℕ) (next left : ℕ) → left ≡ 0 → sets out next (packed_bytes left row) ≡ out
unfolding packed_bytes
put_end out row next left e = rw e

-- a row's part of a canvas, as it is lent
pub row_part : (canvas : List ℕ) (from W : ℕ) → take (from + W - from) (drop from canvas) ≡ take W (drop from canvas)
row_part canvas from W =
    let wide : from + W - from ≡ W = omega arith in
    rw wide

pub row_part_length : (canvas : List ℕ) (from W : ℕ) → from + W ≤ length canvas → length (take W (drop from canvas)) ≡ W
row_part_length canvas from W within = length-take-le W (drop from canvas) (simp length-drop (omega arith))

-- a turn of the loop that puts rows, and its end
pub rows_turn : (out canvas : List ℕ) (next left from W : ℕ) → 0 < left
    → sets out next (packed_rows W left (drop from canvas))
    ≡ sets (sets out next (packed_row W (take W (drop from canvas)))) (next + row_bytes W) (packed_rows W (left - 1) (drop (from + W) canvas))
unfolding packed_rows
rows_turn out canvas next zero from W h = absurd (omega arith)
rows_turn out canvas next (suc left) from W h =
    let less : suc left - 1 ≡ left = omega arith in
    rw (less, sets_append, length_packed_bytes (row_bytes W) (take W (drop from canvas)), drop-drop)

-- the same after k of h rows
pub counted_rows_turn : (out canvas : List ℕ) (next k h from W : ℕ) → k < h
    → sets out next (packed_rows W (h - k) (drop from canvas))
    ≡ sets (sets out next (packed_row W (take W (drop from canvas)))) (next + row_bytes W)
    (packed_rows W (h - (k + 1)) (drop (from + W) canvas))
counted_rows_turn out canvas next k h from W here =
    let left : h - k - 1 ≡ h - (k + 1) = omega arith in
    rows_turn out canvas next (h - k) from W (omega arith)
    ∙ ap (λ (n : ℕ). sets (sets out next (packed_row W (take W (drop from canvas)))) (next + row_bytes W)
    (packed_rows W n (drop (from + W) canvas))) left

pub rows_end : (out canvas : List ℕ) (next left W : ℕ) → left ≡ 0 → sets out next (packed_rows W left canvas) ≡ out
unfolding packed_rows
rows_end out canvas next left W e = rw e

-- a product with one more turn of h
pub turn_more : (k n : ℕ) → (k + 1) * n ≡ k * n + n
turn_more k n = rw (add-one k) (suc-mul k n ∙ omega arith)

pub turn_within : (k h n : ℕ) → k < h → k * n + n ≤ h * n
turn_within k h n here =
    let more : (k + 1) * n ≤ h * n = mul-le-mul (omega arith) (omega arith) in
    omega (arith, turn_more k n)

-- from a byte on: its pixels, and then those of the others
pub unpacked_step : (bytes : List ℕ) (j : ℕ) → j < length bytes
    → unpacked (drop j bytes) ≡ pixels_of (get_or bytes j 0) ++ unpacked (drop (j + 1) bytes)
unfolding unpacked
unpacked_step bytes j h = rw (add-one, drop-cons bytes j 0 h)

pub length_unpacked : (bytes : List ℕ) → length (unpacked bytes) ≡ 8 * length bytes
unfolding unpacked pixels_of
length_unpacked [] = refl
length_unpacked (byte ∷ bytes) = omega (arith, length_unpacked bytes)

pixels_eight : (byte : ℕ) → length (pixels_of byte) ≡ 8
unfolding pixels_of
pixels_eight byte = refl

-- the first n pixels of a byte, whatever stands behind it
pub first_pixels : (n byte : ℕ) (rest : List ℕ) → n ≤ 8 → byte < 256 → shifted_out n byte ≡ take n (pixels_of byte ++ rest)
first_pixels n byte rest few small =
    shifted_first n 8 byte few
    ∙ ap (λ (l : List ℕ). take n l) (shifted_pixels byte small)
    ∙ sym (take-append-le n (pixels_of byte) rest (rw (pixels_eight byte) few))

-- a whole byte of a row that has n pixels left, and then the others
pub byte_of_row : (n byte : ℕ) (rest : List ℕ) → 8 ≤ n → byte < 256 → shifted_out 8 byte ++ take (n - 8) rest ≡ take n
    (pixels_of byte ++ rest)
byte_of_row n byte rest enough small =
    let parts : n ≡ length (pixels_of byte) + (n - 8) = rw (pixels_eight byte) (omega arith) in
    rw (shifted_pixels byte small)
    (sym (take-append-add (pixels_of byte) rest (n - 8)) ∙ ap (λ (k : ℕ). take k (pixels_of byte ++ rest)) (sym parts))

-- a turn of the loop that unpacks a row, and its last part
pub unpack_turn : (row bytes ys : List ℕ) (at j n : ℕ) → at + 8 ≤ n → length row ≡ n → j < length bytes → get_or bytes j 0 < 256
    → ys ≡ shifted_out 8 (get_or bytes j 0)
    → take (at + 8) (take at row ++ (ys ++ drop (at + 8 - at) (drop at row))) ++ take (n - (at + 8)) (unpacked (drop (j + 1) bytes))
    ≡ take at row ++ take (n - at) (unpacked (drop j bytes))
unpack_turn row bytes ys at j n within long some small e =
    let rest = unpacked (drop (j + 1) bytes) in
    let less : n - (at + 8) ≡ n - at - 8 = omega arith in
    let eight : length ys ≡ at + 8 - at = ap length (e ∙ shifted_pixels (get_or bytes j 0) small) ∙ pixels_eight (get_or bytes j 0)
    ∙ omega arith in
    let whole : ys ++ take (n - (at + 8)) rest ≡ take (n - at) (pixels_of (get_or bytes j 0) ++ rest) =
    rw (e, less) (byte_of_row (n - at) (get_or bytes j 0) rest (omega arith) small) in
    rw (over_part_front row ys at (at + 8) (omega arith) (omega arith) eight, append_assoc, whole, unpacked_step bytes j some)

pub unpack_last : (row bytes ys : List ℕ) (at j n : ℕ) → at < n → n - at < 8 → length row ≡ n → j < length bytes → get_or bytes j 0 < 256
    → ys ≡ shifted_out (length row - at) (get_or bytes j 0)
    → take at row ++ (ys ++ drop (length row - at) (drop at row)) ≡ take at row ++ take (n - at) (unpacked (drop j bytes))
unpack_last row bytes ys at j n order few long some small e =
    let rest = unpacked (drop (j + 1) bytes) in
    let none : drop (length row - at) (drop at row) ≡ [] = drop_of_length-le (drop at row) {i = (length row - at)}
    (simp length-drop (omega arith)) in
    let left : length row - at ≡ n - at = omega arith in
    rw (none, append-nil, e, left, unpacked_step bytes j some)
    (ap (λ (l : List ℕ). take at row ++ l) (first_pixels (n - at) (get_or bytes j 0) rest (omega arith) small))

pub unpack_end : (row pixels : List ℕ) (at n : ℕ) → n ≤ at → length row ≡ n → row ≡ take at row ++ take (n - at) pixels
unpack_end row pixels at n all long =
    let none : n - at ≡ 0 = omega arith in
    rw (none, append-nil) (sym (take_all at row (omega arith)))

-- a turn of the loop that unpacks rows, and its end
pub length_unpacked_row : (W : ℕ) (bytes : List ℕ) → W ≤ 8 * length bytes → length (unpacked_row W bytes) ≡ W
length_unpacked_row W bytes enough = length-take-le W (unpacked bytes) (rw (length_unpacked bytes) enough)

pub unpack_rows_turn : (canvas raster ys : List ℕ) (at from left W : ℕ) → 0 < left → at + W ≤ length canvas
    → from + row_bytes W ≤ length raster → ys ≡ unpacked_row W (take (row_bytes W) (drop from raster))
    → take (at + W) (take at canvas ++ (ys ++ drop (at + W - at) (drop at canvas))) ++ unpacked_rows W (left - 1)
    (drop (from + row_bytes W) raster)
    ≡ take at canvas ++ unpacked_rows W left (drop from raster)
unfolding unpacked_rows
unpack_rows_turn canvas raster ys at from zero W some within enough e = absurd (omega arith)
unpack_rows_turn canvas raster ys at from (suc left) W some within enough e =
    let less : suc left - 1 ≡ left = omega arith in
    let bytes = take (row_bytes W) (drop from raster) in
    let bytes_long : W ≤ 8 * length bytes = rw (length-take-le (row_bytes W) (drop from raster) (simp length-drop (omega arith)))
    (omega arith) in
    let long : length ys ≡ at + W - at = ap length e ∙ length_unpacked_row W bytes bytes_long ∙ omega arith in
    rw (over_part_front canvas ys at (at + W) (omega arith) within long, append_assoc, less, e, drop-drop)

-- the same after k of h rows
pub counted_unpack_turn : (canvas raster ys : List ℕ) (at from k h W : ℕ) → k < h → at + W ≤ length canvas
    → from + row_bytes W ≤ length raster → ys ≡ unpacked_row W (take (row_bytes W) (drop from raster))
    → take (at + W) (take at canvas ++ (ys ++ drop (at + W - at) (drop at canvas))) ++ unpacked_rows W (h - (k + 1))
    (drop (from + row_bytes W) raster)
    ≡ take at canvas ++ unpacked_rows W (h - k) (drop from raster)
counted_unpack_turn canvas raster ys at from k h W here within enough e =
    let left : h - (k + 1) ≡ h - k - 1 = omega arith in
    ap (λ (n : ℕ). take (at + W) (take at canvas ++ (ys ++ drop (at + W - at) (drop at canvas))) ++ unpacked_rows W n
    (drop (from + row_bytes W) raster)) left
    ∙ unpack_rows_turn canvas raster ys at from (h - k) W (omega arith) within enough e

pub unpack_rows_end : (canvas raster : List ℕ) (at left W : ℕ) → left ≡ 0 → length canvas ≤ at
    → take at canvas ++ unpacked_rows W left raster ≡ canvas
unfolding unpacked_rows
unpack_rows_end canvas raster at left W none all = rw (none, append-nil) (take_all at canvas all)

-- the bytes of any raster fit 63 bits
pub raster_length_fits : (format : Format) (W H pixels : ℕ) → W < 2 ^ 32 → H < 2 ^ 32 → pixels < 2 ^ 63
    → raster_length format W H pixels < 2 ^ 63
raster_length_fits P4 W H pixels w h p =
    let height : H ≤ 4294967295 = omega arith in
    let bytes : row_bytes W ≤ 536870912 = omega arith in
    let product : H * row_bytes W ≤ 4294967295 * 536870912 = mul-le-mul height bytes in
    omega arith
raster_length_fits P5 W H pixels w h p = p
