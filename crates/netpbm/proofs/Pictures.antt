-- The definitions computed: decimal numbers at the ends of each number of digits, headers, the 27 bytes of document 01's program
-- `oval`, and the refusals of that picture at their limits.
-- Assumes nothing.
use mathlib.Core.Path.{◌≡◌, refl}
use mathlib.Core.List.{List, [], ◌∷◌, ◌++◌, map}
use Prim.Native.Nat.{ℕ}
use lib.IntN.{pos}
use lib.ListN.{replicate}
use Rattle.refusal.specs.Refusal.{refused, answered}
use Rattle.canvas_size.specs.CanvasSize.{canvas_size_check, canvas_length_check}
use Rattle.netpbm_text.specs.Decimal.{decimal_up_to, decimal}
use Rattle.netpbm_header.specs.declared.Format.TheVariants.{P4, P5}
use Rattle.netpbm_header.specs.Header.{header}
use Rattle.netpbm_raster.specs.Raster.{bit, packed_byte, packed_bytes, packed_rows}
use Rattle.netpbm.specs.Netpbm.{write_check, write_call, file_after}

decimals_hold : map decimal (0 ∷ 1 ∷ 2 ∷ 3 ∷ 4 ∷ 5 ∷ 6 ∷ 7 ∷ 8 ∷ 9 ∷ 10 ∷ 99 ∷ 100 ∷ 999 ∷ 1000 ∷ 1024 ∷ 4096 ∷ [])
    ≡ (48 ∷ []) ∷ (49 ∷ []) ∷ (50 ∷ []) ∷ (51 ∷ []) ∷ (52 ∷ []) ∷ (53 ∷ []) ∷ (54 ∷ []) ∷ (55 ∷ []) ∷ (56 ∷ []) ∷ (57 ∷ [])
    ∷ (49 ∷ 48 ∷ []) ∷ (57 ∷ 57 ∷ [])
    ∷ (49 ∷ 48 ∷ 48 ∷ []) ∷ (57 ∷ 57 ∷ 57 ∷ [])
    ∷ (49 ∷ 48 ∷ 48 ∷ 48 ∷ []) ∷ (49 ∷ 48 ∷ 50 ∷ 52 ∷ []) ∷ (52 ∷ 48 ∷ 57 ∷ 54 ∷ [])
    ∷ []
unfolding decimal decimal_up_to
decimals_hold = refl

-- 4 by 4: `P5`, LF, `4 4`, LF, `255`, LF
header_four_by_four : header P5 4 4 ≡ 80 ∷ 53 ∷ 10 ∷ 52 ∷ 32 ∷ 52 ∷ 10 ∷ 50 ∷ 53 ∷ 53 ∷ 10 ∷ []
unfolding header decimal decimal_up_to
header_four_by_four = refl

-- 1024 by 1: W is first
header_row : header P5 1024 1 ≡ 80 ∷ 53 ∷ 10 ∷ 49 ∷ 48 ∷ 50 ∷ 52 ∷ 32 ∷ 49 ∷ 10 ∷ 50 ∷ 53 ∷ 53 ∷ 10 ∷ []
unfolding header decimal decimal_up_to
header_row = refl

-- the canvas of `oval`, and its file
abbrev oval : List ℕ
oval = 0 ∷ 9 ∷ 9 ∷ 0 ∷ 9 ∷ 9 ∷ 9 ∷ 9 ∷ 9 ∷ 9 ∷ 9 ∷ 9 ∷ 0 ∷ 9 ∷ 9 ∷ 0 ∷ []

abbrev oval_file : List ℕ
oval_file =
    80 ∷ 53 ∷ 10 ∷ 52 ∷ 32 ∷ 52 ∷ 10 ∷ 50 ∷ 53 ∷ 53 ∷ 10
    ∷ 0 ∷ 9 ∷ 9 ∷ 0
    ∷ 9 ∷ 9 ∷ 9 ∷ 9
    ∷ 9 ∷ 9 ∷ 9 ∷ 9
    ∷ 0 ∷ 9 ∷ 9 ∷ 0
    ∷ []

-- a buffer of n bytes, none of them a picture's
abbrev buffer : ℕ → List ℕ
buffer n = replicate n 7

-- it is written into 27 bytes and more, and the bytes past it stay; 26 are too few, and stay
oval_written : map (λ (n : ℕ). file_after P5 4 4 oval (buffer n)) (26 ∷ 27 ∷ 30 ∷ [])
    ≡ buffer 26 ∷ oval_file ∷ (oval_file ++ buffer 3) ∷ []
unfolding write_check canvas_size_check canvas_length_check header decimal decimal_up_to
oval_written = refl

oval_answered : map (λ (n : ℕ). write_call P5 4 4 oval (buffer n)) (26 ∷ 27 ∷ 30 ∷ [])
    ≡ refused 13 ∷ answered (pos 27 ∷ []) ∷ answered (pos 27 ∷ []) ∷ []
unfolding write_check canvas_size_check canvas_length_check header decimal decimal_up_to
oval_answered = refl

-- the lowest number: 6 before 8 before 13, with a canvas of 15 bytes and a buffer of none
lowest_number_answered : map (λ (side : ℕ). write_call P5 side 4 (replicate 15 0) []) (0 ∷ 4 ∷ 1025 ∷ [])
    ≡ refused 6 ∷ refused 8 ∷ refused 6 ∷ []
unfolding write_check canvas_size_check canvas_length_check header decimal decimal_up_to
lowest_number_answered = refl

-- W and H are 1..1024: only 13 is left for a buffer of none
widths_held : map (λ (W : ℕ). write_call P5 W 1 (replicate W 0) []) (0 ∷ 1 ∷ 1024 ∷ 1025 ∷ [])
    ≡ refused 6 ∷ refused 13 ∷ refused 13 ∷ refused 6 ∷ []
unfolding write_check canvas_size_check canvas_length_check header decimal decimal_up_to
widths_held = refl

heights_held : map (λ (H : ℕ). write_call P5 1 H (replicate H 0) []) (0 ∷ 1 ∷ 1024 ∷ 1025 ∷ [])
    ≡ refused 6 ∷ refused 13 ∷ refused 13 ∷ refused 6 ∷ []
unfolding write_check canvas_size_check canvas_length_check header decimal decimal_up_to
heights_held = refl

-- as P4: `P4`, LF, `4 4`, LF and a byte for each row, its low half filled up with 0 bits
oval_written_p4 : file_after P4 4 4 oval (buffer 16)
    ≡ 80 ∷ 52 ∷ 10 ∷ 52 ∷ 32 ∷ 52 ∷ 10 ∷ 96 ∷ 240 ∷ 240 ∷ 96 ∷ buffer 5
unfolding write_check canvas_size_check canvas_length_check header decimal decimal_up_to packed_rows packed_bytes packed_byte bit
oval_written_p4 = refl

-- 9 by 1: a second byte holds the ninth pixel
row_of_nine : file_after P4 9 1 (1 ∷ 0 ∷ 2 ∷ 0 ∷ 0 ∷ 0 ∷ 0 ∷ 255 ∷ 8 ∷ []) (buffer 9) ≡ 80 ∷ 52 ∷ 10 ∷ 57 ∷ 32 ∷ 49 ∷ 10 ∷ 161 ∷ 128 ∷ []
unfolding write_check canvas_size_check canvas_length_check header decimal decimal_up_to packed_rows packed_bytes packed_byte bit
row_of_nine = refl
