-- The definitions computed: files that are read and files that are refused, each into a canvas of 4 bytes unless it says otherwise.
-- Assumes nothing.
use mathlib.Core.Path.{◌≡◌, refl}
use mathlib.Core.List.{List, [], ◌∷◌, ◌++◌, map}
use Prim.Native.Nat.{ℕ}
use lib.IntN.{pos}
use lib.ListN.{replicate}
use Rattle.refusal.specs.Refusal.{Outcome, refused, answered}
use Rattle.canvas_size.specs.CanvasSize.{canvas_size_check, canvas_length_check}
use Rattle.netpbm_text.specs.Bytes.{white, hash, ends_comment, is_digit}
use Rattle.netpbm_parser.specs.Parser.{digits_from, digits, after_gap, number, after_white, after_maximum, starts_with, file_header}
use Rattle.netpbm_raster.specs.Raster.{pixels_of, unpacked, unpacked_rows}
use Rattle.netpbm_read.specs.Read.{read_call, canvas_after}

-- a canvas of four bytes, none of them a picture's
abbrev lent : List ℕ
lent = replicate 4 7

-- W is 2 and H is 2
abbrev two_by_two : Outcome
two_by_two = answered (pos 2 ∷ pos 2 ∷ [])

-- `P5 2 2 255 ` and four bytes: read; three: 15; with a fifth behind them: read
p5_read : map (λ (raster : List ℕ). read_call (80 ∷ 53 ∷ 32 ∷ 50 ∷ 32 ∷ 50 ∷ 32 ∷ 50 ∷ 53 ∷ 53 ∷ 32 ∷ raster) lent)
    ((1 ∷ 2 ∷ 3 ∷ 4 ∷ []) ∷ (1 ∷ 2 ∷ 3 ∷ []) ∷ (1 ∷ 2 ∷ 3 ∷ 4 ∷ 5 ∷ []) ∷ [])
    ≡ two_by_two ∷ refused 15 ∷ two_by_two ∷ []
unfolding file_header starts_with number after_gap digits digits_from after_maximum after_white white hash ends_comment is_digit canvas_size_check canvas_length_check
p5_read = refl

-- `P4`, TAB, `2`, CR, `2`, LF and two bytes: the two high bits of each, and no filling bit. One byte is too few, and the canvas stays
p4_read : map (λ (raster : List ℕ). canvas_after (80 ∷ 52 ∷ 9 ∷ 50 ∷ 13 ∷ 50 ∷ 10 ∷ raster) lent) ((191 ∷ 64 ∷ []) ∷ (191 ∷ []) ∷ [])
    ≡ (1 ∷ 0 ∷ 0 ∷ 1 ∷ []) ∷ lent ∷ []
unfolding file_header starts_with number after_gap digits digits_from after_white white hash ends_comment is_digit canvas_size_check canvas_length_check pixels_of unpacked unpacked_rows
p4_read = refl

-- in the place of each gap of `P4 2 2 ` others, before a raster of two bytes: spaces, a comment ended by CR, one ended by LF between
-- spaces, a
-- comment alone; then no gap, a vertical tab, a form feed, a comment that goes on to the file's end
gaps_read : map (λ (gap : List ℕ). read_call (80 ∷ 52 ∷ [] ++ gap ++ (50 ∷ []) ++ gap ++ (50 ∷ 10 ∷ 0 ∷ 0 ∷ [])) lent)
    ((32 ∷ 32 ∷ []) ∷ (35 ∷ 120 ∷ 13 ∷ []) ∷ (32 ∷ 35 ∷ 10 ∷ 32 ∷ []) ∷ (35 ∷ 10 ∷ []) ∷ [] ∷ (11 ∷ []) ∷ (12 ∷ []) ∷ (35 ∷ 120 ∷ []) ∷ [])
    ≡ two_by_two ∷ two_by_two ∷ two_by_two ∷ two_by_two ∷ refused 14 ∷ refused 14 ∷ refused 14 ∷ refused 14 ∷ []
unfolding file_header starts_with number after_gap digits digits_from after_white white hash ends_comment is_digit canvas_size_check canvas_length_check
gaps_read = refl

-- `P5 2 2 ` and as maximum `255`, `0255`, `254`, `2550`, `65535`; then `255` with a comment right behind it, and at the file's end
maxima_read : map (λ (maximum : List ℕ). read_call (80 ∷ 53 ∷ 32 ∷ 50 ∷ 32 ∷ 50 ∷ 32 ∷ [] ++ maximum) lent)
    ((50 ∷ 53 ∷ 53 ∷ 10 ∷ 0 ∷ 0 ∷ 0 ∷ 0 ∷ []) ∷ (48 ∷ 50 ∷ 53 ∷ 53 ∷ 10 ∷ 0 ∷ 0 ∷ 0 ∷ 0 ∷ []) ∷ (50 ∷ 53 ∷ 52 ∷ 10 ∷ 0 ∷ 0 ∷ 0 ∷ 0 ∷ [])
    ∷ (50 ∷ 53 ∷ 53 ∷ 48 ∷ 10 ∷ 0 ∷ 0 ∷ 0 ∷ 0 ∷ []) ∷ (54 ∷ 53 ∷ 53 ∷ 51 ∷ 53 ∷ 10 ∷ 0 ∷ 0 ∷ 0 ∷ 0 ∷ [])
    ∷ (50 ∷ 53 ∷ 53 ∷ 35 ∷ 10 ∷ 0 ∷ 0 ∷ 0 ∷ 0 ∷ []) ∷ (50 ∷ 53 ∷ 53 ∷ []) ∷ [])
    ≡ two_by_two ∷ two_by_two ∷ refused 14 ∷ refused 14 ∷ refused 14 ∷ refused 14 ∷ refused 14 ∷ []
unfolding file_header starts_with number after_gap digits digits_from after_maximum after_white white hash ends_comment is_digit canvas_size_check canvas_length_check
maxima_read = refl

-- `P4 ` and as width 22 zeros and then `2`, 40 ones, `0`, `1025`, `1024`, before `2` and no raster: 15, 6, 6, 6, and 8 for a canvas of 4
widths_read : map (λ (W : List ℕ). read_call (80 ∷ 52 ∷ 32 ∷ [] ++ W ++ (32 ∷ 50 ∷ 10 ∷ [])) lent)
    ((replicate 22 48 ++ (50 ∷ [])) ∷ replicate 40 49 ∷ (48 ∷ []) ∷ (49 ∷ 48 ∷ 50 ∷ 53 ∷ []) ∷ (49 ∷ 48 ∷ 50 ∷ 52 ∷ []) ∷ [])
    ≡ refused 15 ∷ refused 6 ∷ refused 6 ∷ refused 6 ∷ refused 8 ∷ []
unfolding file_header starts_with number after_gap digits digits_from after_white white hash ends_comment is_digit canvas_size_check canvas_length_check
widths_read = refl

-- an empty file, `P`, `P6 2 2 255 `, `P54 4`, `P4`; and `P5 0 0 7 `, where 14 comes before 6
magics_read : map (λ (file : List ℕ). read_call file lent)
    ([] ∷ (80 ∷ []) ∷ (80 ∷ 54 ∷ 32 ∷ 50 ∷ 32 ∷ 50 ∷ 32 ∷ 50 ∷ 53 ∷ 53 ∷ 32 ∷ 0 ∷ 0 ∷ 0 ∷ 0 ∷ []) ∷ (80 ∷ 53 ∷ 52 ∷ 32 ∷ 52 ∷ []) ∷
    (80 ∷ 52 ∷ [])
    ∷ (80 ∷ 53 ∷ 32 ∷ 48 ∷ 32 ∷ 48 ∷ 32 ∷ 55 ∷ 32 ∷ []) ∷ [])
    ≡ refused 14 ∷ refused 14 ∷ refused 14 ∷ refused 14 ∷ refused 14 ∷ refused 14 ∷ []
unfolding file_header starts_with number after_gap digits digits_from after_maximum after_white white hash ends_comment is_digit
magics_read = refl
