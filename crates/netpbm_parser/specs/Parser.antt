-- Document 02, 'One': the header of a Netpbm file of format P4 or P5, over the bytes of the file. Numbers have any length.
-- Assumes nothing.
use Rattle.std.specs.Prelude.{Bool, true, false, cond, ◌||◌, List, [], ◌∷◌, ℕ, ◌+◌, ◌*◌, eqb, drop}
use Rattle.netpbm_text.specs.Bytes.{white, hash, ends_comment, is_digit, digit_value}
use Rattle.netpbm_header.specs.declared.Format.{Format}
use Rattle.netpbm_header.specs.declared.Format.TheVariants.{P4, P5}
use Rattle.netpbm_header.specs.Header.{magic}

-- what is read at the start of bytes: a number, and the bytes behind it; or none
pub data Parsed : Type 0 where
  malformed : Parsed
  parsed : ℕ → List ℕ → Parsed

-- the digits that follow others of value n, as many as there are
unfoldable pub digits_from : ℕ → List ℕ → Parsed
digits_from n [] = parsed n []
digits_from n (byte ∷ bytes) =
    let more = digits_from (10 * n + digit_value byte) bytes in
    cond (is_digit byte) more (parsed n (byte ∷ bytes))

-- one or more decimal digits
unfoldable pub digits : List ℕ → Parsed
digits [] = malformed
digits (byte ∷ bytes) = cond (is_digit byte) (digits_from 0 (byte ∷ bytes)) malformed

-- the digits behind whitespace and comments, as many as there are; the Bool says whether the bytes begin inside a comment. There every byte
-- is passed over, through CR or LF; a comment that the file's end cuts off is none, and no number follows
unfoldable pub after_gap : Bool → List ℕ → Parsed
after_gap inside [] = malformed
after_gap true (byte ∷ bytes) =
    let outside = after_gap false bytes in
    let inside = after_gap true bytes in
    cond (ends_comment byte) outside inside
after_gap false (byte ∷ bytes) =
    let outside = after_gap false bytes in
    let inside = after_gap true bytes in
    cond (white byte) outside (cond (hash byte) inside (digits (byte ∷ bytes)))

-- a number of a header: digits that follow whitespace or comments, one at least of either
unfoldable pub number : List ℕ → Parsed
number [] = malformed
number (byte ∷ bytes) = cond (white byte || hash byte) (after_gap false (byte ∷ bytes)) malformed

-- the raster and what stands behind it; or none
pub data Rest : Type 0 where
  none : Rest
  rest : List ℕ → Rest

-- one whitespace byte, right after the last number, precedes the raster
unfoldable pub after_white : List ℕ → Rest
after_white [] = none
after_white (byte ∷ bytes) = cond (white byte) (rest bytes) none

-- the maximum of P5 is 255
unfoldable pub after_maximum : Parsed → Rest
after_maximum malformed = none
after_maximum (parsed maximum bytes) = cond (eqb maximum 255) (after_white bytes) none

-- what follows H: in P5 the maximum; and the raster
abbrev pub closing : Format → List ℕ → Rest
closing P4 bytes = after_white bytes
closing P5 bytes = after_maximum (number bytes)

-- what a file begins with: no header of P4 or P5; or one, its format, W, H and the bytes behind it
pub data ReadHeader : Type 0 where
  no_header : ReadHeader
  headed : Format → ℕ → ℕ → List ℕ → ReadHeader

-- the header, by what is read in turn: W; H; and what follows them. Where one is missing there is no header
abbrev pub of_rest : Format → ℕ → ℕ → Rest → ReadHeader
of_rest format W H none = no_header
of_rest format W H (rest raster) = headed format W H raster

abbrev pub of_height : Format → ℕ → Parsed → ReadHeader
of_height format W malformed = no_header
of_height format W (parsed H bytes) = of_rest format W H (closing format bytes)

abbrev pub of_width : Format → Parsed → ReadHeader
of_width format malformed = no_header
of_width format (parsed W bytes) = of_height format W (number bytes)

-- whether bytes begin with others, as a file with its magic
unfoldable pub starts_with : List ℕ → List ℕ → Bool
starts_with [] bytes = true
starts_with (first ∷ others) [] = false
starts_with (first ∷ others) (byte ∷ bytes) =
    let same = starts_with others bytes in
    cond (eqb first byte) same false

-- the magic; W; H; in P5 the maximum; one whitespace byte; the raster
unfoldable pub file_header : List ℕ → ReadHeader
file_header file =
    cond (starts_with (magic P4) file) (of_width P4 (number (drop 2 file)))
    (cond (starts_with (magic P5) file) (of_width P5 (number (drop 2 file))) no_header)
