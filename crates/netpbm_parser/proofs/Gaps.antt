-- Laws of whitespace, comments and digits at a place of a file: what the byte there says of what follows.
-- Assumes nothing.
use mathlib.Core.Path.{◌≡◌, refl, sym, ◌∙◌}
use mathlib.Core.Bool.{Bool, true, false, ◌||◌}
use mathlib.Core.List.{List}
use Prim.Native.Nat.{ℕ, ◌+◌, ◌≤◌, ◌<◌}
use native.Mathlib.Numerals.{add-one}
use native.Mathlib.Omega.{arith}
use borrow.Author.Tests.{eq-eqb, ne_eqb}
use lib.ListN.{length, drop, get_or, drop_of_length-le}
use lib.Seq.{drop-cons}
use Rattle.netpbm_text.specs.Bytes.{white, hash, ends_comment, is_digit}
use Rattle.netpbm_parser.specs.Parser.{malformed, digits, digits_from, after_gap, number, none, rest, after_white}
use Rattle.netpbm_parser.specs.Capped.{Piece}

-- the byte that begins a comment
pub is_hash : (byte : ℕ) → byte ≡ 35 → hash byte ≡ true
unfolding hash
is_hash byte e = eq-eqb byte 35 e

pub no_hash : (byte : ℕ) → (byte ≡ 35 → ⊥) → hash byte ≡ false
unfolding hash
no_hash byte other = ne_eqb byte 35 other

-- at the file's end nothing follows
pub gap_at_end : (inside : Bool) (file : List ℕ) (at : ℕ) → length file ≤ at → after_gap inside (drop at file) ≡ malformed
unfolding after_gap
gap_at_end inside file at h = rw (drop_of_length-le file {i = at} h)

pub number_at_end : (file : List ℕ) (at : ℕ) → length file ≤ at → number (drop at file) ≡ malformed
unfolding number
number_at_end file at h = rw (drop_of_length-le file {i = at} h)

pub digits_at_end : (file : List ℕ) (at : ℕ) → length file ≤ at → digits (drop at file) ≡ malformed
unfolding digits
digits_at_end file at h = rw (drop_of_length-le file {i = at} h)

pub white_at_end : (file : List ℕ) (at : ℕ) → length file ≤ at → after_white (drop at file) ≡ none
unfolding after_white
white_at_end file at h = rw (drop_of_length-le file {i = at} h)

-- by the byte at a place
module _ (file : List ℕ) (at : ℕ) (within : at < length file) where
  pub comment_ends : ends_comment (get_or file at 0) ≡ true → after_gap true (drop at file) ≡ after_gap false (drop (at + 1) file)
  unfolding after_gap
  comment_ends e = rw (add-one, drop-cons file at 0 within, e)

  pub comment_goes_on : ends_comment (get_or file at 0) ≡ false → after_gap true (drop at file) ≡ after_gap true (drop (at + 1) file)
  unfolding after_gap
  comment_goes_on e = rw (add-one, drop-cons file at 0 within, e)

  pub gap_white : white (get_or file at 0) ≡ true → after_gap false (drop at file) ≡ after_gap false (drop (at + 1) file)
  unfolding after_gap
  gap_white e = rw (add-one, drop-cons file at 0 within, e)

  pub gap_comment : white (get_or file at 0) ≡ false → hash (get_or file at 0) ≡ true
      → after_gap false (drop at file) ≡ after_gap true (drop (at + 1) file)
  unfolding after_gap
  gap_comment e h = rw (add-one, drop-cons file at 0 within, e, h)

  pub gap_none : white (get_or file at 0) ≡ false → hash (get_or file at 0) ≡ false → after_gap false (drop at file) ≡ digits (drop at file)
  unfolding after_gap
  gap_none e h = rw (drop-cons file at 0 within, e, h)

  pub number_follows : (white (get_or file at 0) || hash (get_or file at 0)) ≡ true → number (drop at file) ≡ after_gap false (drop at file)
  unfolding number
  number_follows e = rw (drop-cons file at 0 within, e)

  pub number_bare : white (get_or file at 0) ≡ false → hash (get_or file at 0) ≡ false → number (drop at file) ≡ malformed
  unfolding number
  number_bare e h = rw (drop-cons file at 0 within, e, h)

  pub no_digits : is_digit (get_or file at 0) ≡ false → digits (drop at file) ≡ malformed
  unfolding digits
  no_digits e = rw (drop-cons file at 0 within, e)

  pub some_digits : is_digit (get_or file at 0) ≡ true → digits (drop at file) ≡ digits_from 0 (drop at file)
  unfolding digits
  some_digits e = rw (drop-cons file at 0 within, e)

  pub white_read : white (get_or file at 0) ≡ true → after_white (drop at file) ≡ rest (drop (at + 1) file)
  unfolding after_white
  white_read e = rw (add-one, drop-cons file at 0 within, e)

  pub white_missing : white (get_or file at 0) ≡ false → after_white (drop at file) ≡ none
  unfolding after_white
  white_missing e = rw (drop-cons file at 0 within, e)

-- a piece of a gap: a whitespace byte, a comment that ends before r, or nothing
pub piece_white : (file : List ℕ) (at : ℕ) → at < length file → white (get_or file at 0) ≡ true → Piece file at (at + 1)
piece_white file at within e =
    record {
      from = omega arith;
      to = omega arith;
      past = gap_white file at within e;
      some = λ (h : at < at + 1). number_follows file at within (rw e) ∙ gap_white file at within e;
      none = λ (h : at + 1 ≤ at). absurd (omega arith);
    }

pub piece_comment : (file : List ℕ) (at r : ℕ) → at < length file → white (get_or file at 0) ≡ false → hash (get_or file at 0) ≡ true
    → at + 1 ≤ r → r ≤ length file → after_gap true (drop (at + 1) file) ≡ after_gap false (drop r file) → Piece file at r
piece_comment file at r within e h order end past =
    record {
      from = omega arith;
      to = end;
      past = gap_comment file at within e h ∙ past;
      some = λ (h' : at < r). number_follows file at within (rw (e, h)) ∙ gap_comment file at within e h ∙ past;
      none = λ (h' : r ≤ at). absurd (omega arith);
    }

pub piece_none : (file : List ℕ) (at : ℕ) → at < length file → white (get_or file at 0) ≡ false → hash (get_or file at 0) ≡ false
    → Piece file at at
piece_none file at within e h =
    record {
      from = omega arith;
      to = omega arith;
      past = refl;
      some = λ (h' : at < at). absurd (omega arith);
      none = λ (h' : at ≤ at). (number_bare file at within e h, gap_none file at within e h);
    }

pub piece_at_end : (file : List ℕ) (at : ℕ) → length file ≤ at → at ≤ length file → Piece file at at
piece_at_end file at end within =
    record {
      from = omega arith;
      to = within;
      past = refl;
      some = λ (h' : at < at). absurd (omega arith);
      none = λ (h' : at ≤ at). (number_at_end file at end, gap_at_end false file at end ∙ sym (digits_at_end file at end));
    }
