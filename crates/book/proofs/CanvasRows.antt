-- The rows of a canvas: lengths, a row after it is put and the other rows beside it, two canvases that are equal by rows, and the
-- rows of a canvas that is made of them.
-- Byte by byte: byte k of row y is byte y × W + k of the canvas, and rows of different numbers share no byte.
-- Assumes nothing.
use mathlib.Core.Path.{◌≡◌, refl, sym, ap, ◌∙◌}
use mathlib.Core.List.{List, ◌++◌}
use mathlib.Core.Bool.{Bool, true, false}
use Prim.Native.Nat.{ℕ, zero, suc, ◌+◌, ◌*◌, ◌-◌, ◌/◌, ◌%◌, ◌≤◌, ◌<◌}
use native.Mathlib.Nat.{mul-le-mul_right, mod-lt, div-lt_iff_lt-mul, div-add-mod', mul_comm, zero-mul}
use native.Mathlib.Omega.{arith}
use lib.Dec.{ltb}
use lib.ListN.{length, take, drop, get_or, length-append, length-take, length-drop, take-append-drop, get_or-append}
use lib.Seq.{ext_get_or, get_or-take, get_or-drop, get_or-append-add, take_at, drop_at, drop-drop, length-take-le}
use borrow.Author.Tests.{ltb-true, ltb-false}
use Rattle.book.specs.Canvas.{canvas_row, put_row, rows_from, canvas_of}

module _ (W H y : ℕ) (canvas : List ℕ) (low : y < H) (size : length canvas ≡ W * H) where
  pub row_within : y * W + W ≤ length canvas
  row_within = omega (arith, mul-le-mul_right W low)

  pub canvas_row_length : length (canvas_row W y canvas) ≡ W
  unfolding canvas_row
  canvas_row_length = simp (length-take, length-drop) (omega (arith, row_within))

  pub canvas_row_byte : (k : ℕ) → k < W → get_or (canvas_row W y canvas) k 0 ≡ get_or canvas (y * W + k) 0
  unfolding canvas_row
  canvas_row_byte k h = get_or-take W (drop (y * W) canvas) k 0 h ∙ get_or-drop (y * W) canvas k 0

pub rows_equal_by_bytes : (W H z : ℕ) (c e : List ℕ) → z < H → length c ≡ W * H → length e ≡ W * H
    → ((k : ℕ) → k < W → get_or c (z * W + k) 0 ≡ get_or e (z * W + k) 0) → canvas_row W z c ≡ canvas_row W z e
rows_equal_by_bytes W H z c e low p q bytes =
    ext_get_or 0 (canvas_row W z c) (canvas_row W z e) (canvas_row_length W H z c low p ∙ sym (canvas_row_length W H z e low q))
    (λ k within.
    let inside : k < W = omega (arith, canvas_row_length W H z c low p) in
    canvas_row_byte W H z c low p k inside ∙ bytes k inside ∙ sym (canvas_row_byte W H z e low q k inside))

module _ (W H y : ℕ) (canvas : List ℕ) (low : y < H) (size : length canvas ≡ W * H) (row : List ℕ)
    (wide : length row ≡ W) where
  pub put_row_length : length (put_row W y row canvas) ≡ W * H
  unfolding put_row
  put_row_length =
      simp (length-append, length-take, length-drop, wide) (omega (arith, row_within W H y canvas low size))

  start_length : length (take (y * W) canvas) ≡ y * W
  start_length = length-take-le (y * W) canvas (omega (arith, row_within W H y canvas low size))

  pub put_row_here : canvas_row W y (put_row W y row canvas) ≡ row
  unfolding canvas_row put_row
  put_row_here =
      rw (
        drop_at (take (y * W) canvas) (row ++ drop W (drop (y * W) canvas)) (y * W) start_length,
        take_at row (drop W (drop (y * W) canvas)) W wide,
      )

  byte_before : (j : ℕ) → j < y * W → get_or (put_row W y row canvas) j 0 ≡ get_or canvas j 0
  unfolding put_row
  byte_before j h =
      get_or-append (take (y * W) canvas) (row ++ drop W (drop (y * W) canvas)) 0 j (omega (arith, start_length))
      ∙ get_or-take (y * W) canvas j 0 h

  byte_after : (k : ℕ) → get_or (put_row W y row canvas) (y * W + (W + k)) 0 ≡ get_or canvas (y * W + (W + k)) 0
  unfolding put_row
  byte_after k =
      let rest : List ℕ = drop W (drop (y * W) canvas) in
      ap (λ (n : ℕ). get_or (take (y * W) canvas ++ (row ++ rest)) (n + (W + k)) 0) (sym start_length)
      ∙ get_or-append-add (take (y * W) canvas) (row ++ rest) (W + k) 0
      ∙ ap (λ (n : ℕ). get_or (row ++ rest) (n + k) 0) (sym wide)
      ∙ get_or-append-add row rest k 0
      ∙ get_or-drop W (drop (y * W) canvas) k 0
      ∙ get_or-drop (y * W) canvas (W + k) 0

  byte_outside : (z k : ℕ) → (z ≡ y → ⊥) → k < W → get_or (put_row W y row canvas) (z * W + k) 0 ≡ get_or canvas (z * W + k) 0
  byte_outside z k other h = by_order (ltb z y) refl
    where
      past_row : (j : ℕ) → z * W + k ≡ y * W + (W + j)
          → get_or (put_row W y row canvas) (z * W + k) 0 ≡ get_or canvas (z * W + k) 0
      past_row j e = rw e (byte_after j)

      by_order : (t : Bool) → ltb z y ≡ t → get_or (put_row W y row canvas) (z * W + k) 0 ≡ get_or canvas (z * W + k) 0
      by_order true e = byte_before (z * W + k) (omega (arith, mul-le-mul_right W (ltb-true z y e)))
      by_order false e =
          let below : suc y ≤ z = omega (arith, ltb-false z y e, other) in
          past_row (z * W + k - (y * W + W)) (omega (arith, mul-le-mul_right W below))

  pub put_row_other : (z : ℕ) → z < H → (z ≡ y → ⊥) → canvas_row W z (put_row W y row canvas) ≡ canvas_row W z canvas
  put_row_other z h other =
      rows_equal_by_bytes W H z (put_row W y row canvas) canvas h put_row_length size
      (λ k inside. byte_outside z k other inside)

-- a row put back as it was leaves the canvas as it was
pub put_row_same : (W y : ℕ) (canvas : List ℕ) → put_row W y (canvas_row W y canvas) canvas ≡ canvas
unfolding put_row canvas_row
put_row_same W y canvas =
    ap (λ (rest : List ℕ). take (y * W) canvas ++ rest) (take-append-drop W (drop (y * W) canvas))
    ∙ take-append-drop (y * W) canvas

width_positive : (W H i : ℕ) → i < W * H → 0 < W
width_positive zero H i h = absurd (omega (arith, zero-mul H))
width_positive (suc W) H i h = omega arith

pub canvases_equal_by_rows : (W H : ℕ) (c e : List ℕ) → length c ≡ W * H → length e ≡ W * H
    → ((y : ℕ) → y < H → canvas_row W y c ≡ canvas_row W y e) → c ≡ e
canvases_equal_by_rows W H c e p q rows = ext_get_or 0 c e (p ∙ sym q) byte_of_row
  where
    byte_of_row : (i : ℕ) → i < length c → get_or c i 0 ≡ get_or e i 0
    byte_of_row i within =
        let wide : 0 < W = width_positive W H i (omega arith) in
        let column : i % W < W = mod-lt i wide in
        let low : i / W < H = (div-lt_iff_lt-mul wide).1 (omega (arith, mul_comm W H)) in
        ap (λ (n : ℕ). get_or c n 0) (sym (div-add-mod' i W))
        ∙ sym (canvas_row_byte W H (i / W) c low p (i % W) column)
        ∙ ap (λ (l : List ℕ). get_or l (i % W) 0) (rows (i / W) low)
        ∙ canvas_row_byte W H (i / W) e low q (i % W) column
        ∙ ap (λ (n : ℕ). get_or e n 0) (div-add-mod' i W)

-- ---- a canvas of rows one behind the other
module _ (W : ℕ) where
  pub rows_down : (z : ℕ) → suc z * W ≡ W + z * W
  rows_down z = omega arith

  -- the row after the first of two parts
  pub row_of_append : (z : ℕ) (row rest : List ℕ) → length row ≡ W → canvas_row W (suc z) (row ++ rest) ≡ canvas_row W z rest
  unfolding canvas_row
  row_of_append z row rest wide =
      ap (take W)
      (ap (λ (n : ℕ). drop n (row ++ rest)) (rows_down z)
      ∙ sym (drop-drop (z * W) W (row ++ rest))
      ∙ ap (drop (z * W)) (drop_at row rest W wide))

  -- the first row
  pub row_at_start : (canvas : List ℕ) → canvas_row W 0 canvas ≡ take W canvas
  unfolding canvas_row
  row_at_start canvas = ap (λ (n : ℕ). take W (drop n canvas)) (zero-mul W)

  pub row_of_start : (row rest : List ℕ) → length row ≡ W → canvas_row W 0 (row ++ rest) ≡ row
  row_of_start row rest wide = row_at_start (row ++ rest) ∙ take_at row rest W wide

  module _ (row : ℕ → List ℕ) where
    rows_from_length : (n y : ℕ) → ((z : ℕ) → z < y + n → length (row z) ≡ W) → length (rows_from row y n) ≡ n * W
    unfolding rows_from
    rows_from_length zero y wide = sym (zero-mul W)
    rows_from_length (suc n) y wide =
        length-append (row y) (rows_from row (suc y) n)
        ∙ omega (arith, wide y (omega arith), rows_from_length n (suc y) (λ z h. wide z (omega arith)))

    rows_from_row : (n y z : ℕ) → z < n → ((k : ℕ) → k < y + n → length (row k) ≡ W)
        → canvas_row W z (rows_from row y n) ≡ row (y + z)
    unfolding rows_from
    rows_from_row zero y z low wide = absurd (omega arith)
    rows_from_row (suc n) y zero low wide =
        row_of_start (row y) (rows_from row (suc y) n) (wide y (omega arith)) ∙ ap row (omega arith)
    rows_from_row (suc n) y (suc z) low wide =
        row_of_append z (row y) (rows_from row (suc y) n) (wide y (omega arith))
        ∙ rows_from_row n (suc y) z (omega arith) (λ k h. wide k (omega arith))
        ∙ ap row (omega arith)

    module _ (H : ℕ) (wide : (y : ℕ) → y < H → length (row y) ≡ W) where
      pub canvas_of_length : length (canvas_of row H) ≡ W * H
      canvas_of_length = rows_from_length H 0 (λ z h. wide z (omega arith)) ∙ mul_comm H W

      pub canvas_of_row : (y : ℕ) → y < H → canvas_row W y (canvas_of row H) ≡ row y
      canvas_of_row y low = rows_from_row H 0 y low (λ z h. wide z (omega arith)) ∙ ap row (omega arith)
