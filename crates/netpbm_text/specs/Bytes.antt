-- Document 02, 'One': what the bytes of a header's text are.
-- Assumes nothing.
use Rattle.std.specs.Prelude.{Bool, ◌&&◌, ◌||◌, ℕ, ◌-◌, leb, eqb}

-- whitespace: space, TAB, CR, LF
unfoldable pub white : ℕ → Bool
white byte = eqb byte 32 || (eqb byte 9 || (eqb byte 13 || eqb byte 10))

-- #, with which a comment begins, and CR or LF, through which it runs
unfoldable pub hash : ℕ → Bool
hash byte = eqb byte 35

unfoldable pub ends_comment : ℕ → Bool
ends_comment byte = eqb byte 13 || eqb byte 10

-- a decimal digit, and its value; 48 is `0`
unfoldable pub is_digit : ℕ → Bool
is_digit byte = leb 48 byte && leb byte 57

abbrev pub digit_value : ℕ → ℕ
digit_value byte = byte - 48
