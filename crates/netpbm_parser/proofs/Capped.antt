-- Numbers and headers as far as they are kept: digits read one by one, the maximum, and the sides.
-- Assumes nothing.
use mathlib.Core.Path.{◌≡◌, refl, sym, ap, ◌∙◌}
use mathlib.Core.Bool.{Bool, true, false, cond, ◌&&◌}
use mathlib.Core.List.{List, [], ◌∷◌}
use Prim.Native.Nat.{ℕ, suc, ◌+◌, ◌*◌, ◌≤◌, ◌<◌, min}
use native.Mathlib.Numerals.{add-one}
use native.Mathlib.Nat.{min-eq_left}
use native.Mathlib.Omega.{arith}
use borrow.Author.Tests.{eqb-true, eqb-false, eq-eqb, ne_eqb}
use lib.Dec.{eqb}
use lib.ListN.{length, take, drop, get_or, drop_of_length-le}
use lib.Pointwise.{pointwise}
use lib.Seq.{drop-cons}
use Rattle.netpbm_header.specs.declared.Format.{Format}
use Rattle.netpbm_text.specs.Bytes.{is_digit, digit_value}
use Rattle.netpbm_parser.specs.Parser.{Parsed, malformed, parsed, digits_from, number, Rest, none, rest, after_white, after_maximum, closing, ReadHeader, no_header, of_rest, of_height, of_width, starts_with}
use Rattle.netpbm_parser.specs.Capped.{most_kept, capped, capped_header}

-- a number that is kept is not changed
pub kept : (n : ℕ) → n ≤ most_kept → min n most_kept ≡ n
kept n h = min-eq_left h

-- what the digits that follow make of two numbers that are kept alike is kept alike
kept_alike : (m n : ℕ) (bytes : List ℕ) → min m most_kept ≡ min n most_kept → capped (digits_from m bytes) ≡ capped (digits_from n bytes)
unfolding digits_from
kept_alike m n [] e = ap (λ (k : ℕ). parsed k []) e
kept_alike m n (byte ∷ bytes) e =
    by_test (is_digit byte) (kept_alike (10 * m + digit_value byte) (10 * n + digit_value byte) bytes (longer m n (digit_value byte) e))
  where
    longer : (m n d : ℕ) → min m most_kept ≡ min n most_kept → min (10 * m + d) most_kept ≡ min (10 * n + d) most_kept
    longer m n d e = omega arith

    by_test : (t : Bool) → capped (digits_from (10 * m + digit_value byte) bytes) ≡ capped (digits_from (10 * n + digit_value byte) bytes)
        → capped (cond t (digits_from (10 * m + digit_value byte) bytes) (parsed m (byte ∷ bytes)))
        ≡ capped (cond t (digits_from (10 * n + digit_value byte) bytes) (parsed n (byte ∷ bytes)))
    by_test true more = more
    by_test false more = ap (λ (k : ℕ). parsed k (byte ∷ bytes)) e

-- at a place of a file: a digit more, or no more digits
pub digit_more : (file : List ℕ) (i n : ℕ) → i < length file → is_digit (get_or file i 0) ≡ true
    → capped (digits_from n (drop i file)) ≡ capped (digits_from (min (10 * n + digit_value (get_or file i 0)) most_kept) (drop (i + 1) file))
unfolding digits_from
digit_more file i n within e =
    rw (add-one, drop-cons file i 0 within, e)
    (kept_alike (10 * n + digit_value (get_or file i 0)) _ (drop (suc i) file) (twice (10 * n + digit_value (get_or file i 0))))
  where
    twice : (n : ℕ) → min n most_kept ≡ min (min n most_kept) most_kept
    twice n = omega arith

pub digits_stop : (file : List ℕ) (i n : ℕ) → i < length file → is_digit (get_or file i 0) ≡ false
    → digits_from n (drop i file) ≡ parsed n (drop i file)
unfolding digits_from
digits_stop file i n within e = rw (drop-cons file i 0 within, e)

pub digits_end : (file : List ℕ) (i n : ℕ) → length file ≤ i → digits_from n (drop i file) ≡ parsed n (drop i file)
unfolding digits_from
digits_end file i n end = rw (drop_of_length-le file {i = i} end)

-- the maximum may be kept as any other number
maximum_capped : (p : Parsed) → after_maximum (capped p) ≡ after_maximum p
unfolding after_maximum
maximum_capped malformed = refl
maximum_capped (parsed n bytes) = rw (same n)
  where
    by_test : (n : ℕ) (t : Bool) → eqb n 255 ≡ t → eqb (min n most_kept) 255 ≡ t
    by_test n true e = eq-eqb (min n most_kept) 255 (omega (arith, eqb-true n 255 e))
    by_test n false e = ne_eqb (min n most_kept) 255 (λ (h : min n most_kept ≡ 255). eqb-false n 255 e (omega arith))

    same : (n : ℕ) → eqb (min n most_kept) 255 ≡ eqb n 255
    same n = by_test n (eqb n 255) refl

-- what the code has read tells the maximum: none; 255; or another
module _ (p : Parsed) where
  pub no_maximum : malformed ≡ capped p → none ≡ after_maximum p
  unfolding after_maximum
  no_maximum e = ap (λ (q : Parsed). after_maximum q) e ∙ maximum_capped p

  pub right_maximum : (n : ℕ) (bytes : List ℕ) → parsed n bytes ≡ capped p → n ≡ 255 → after_white bytes ≡ after_maximum p
  unfolding after_maximum
  right_maximum n bytes e is = sym (rw (eq-eqb n 255 is)) ∙ ap (λ (q : Parsed). after_maximum q) e ∙ maximum_capped p

  pub other_maximum : (n : ℕ) (bytes : List ℕ) → parsed n bytes ≡ capped p → (n ≡ 255 → ⊥) → none ≡ after_maximum p
  unfolding after_maximum
  other_maximum n bytes e other = sym (rw (ne_eqb n 255 other)) ∙ ap (λ (q : Parsed). after_maximum q) e ∙ maximum_capped p

-- a header by its numbers as far as they are kept
abbrev of_height_kept : Format → ℕ → Parsed → ReadHeader
of_height_kept format W malformed = no_header
of_height_kept format W (parsed H bytes) = of_rest format W H (closing format bytes)

abbrev of_width_kept : Format → Parsed → ReadHeader
of_width_kept format malformed = no_header
of_width_kept format (parsed W bytes) = of_height_kept format W (capped (number bytes))

rest_capped : (format : Format) (W H : ℕ) (r : Rest)
    → capped_header (of_rest format W H r) ≡ of_rest format (min W most_kept) (min H most_kept) r
rest_capped format W H none = refl
rest_capped format W H (rest raster) = refl

height_capped : (format : Format) (W : ℕ) (p : Parsed)
    → capped_header (of_height format W p) ≡ of_height_kept format (min W most_kept) (capped p)
height_capped format W malformed = refl
height_capped format W (parsed H bytes) = rest_capped format W H (closing format bytes)

width_capped : (format : Format) (p : Parsed) → capped_header (of_width format p) ≡ of_width_kept format (capped p)
width_capped format malformed = refl
width_capped format (parsed W bytes) = height_capped format W (number bytes)

-- what the code has read tells the header: no width; no height; or both, and what follows them
module _ (format : Format) (p : Parsed) where
  pub no_width : malformed ≡ capped p → no_header ≡ capped_header (of_width format p)
  no_width width = sym (width_capped format p ∙ ap (λ (q : Parsed). of_width_kept format q) (sym width))

  pub no_height : (W : ℕ) (bytes : List ℕ) → parsed W bytes ≡ capped p → malformed ≡ capped (number bytes)
      → no_header ≡ capped_header (of_width format p)
  no_height W bytes width height =
      sym
      (width_capped format p
      ∙ ap (λ (q : Parsed). of_width_kept format q) (sym width)
      ∙ ap (λ (q : Parsed). of_height_kept format W q) (sym height))

  pub both_sides : (W H : ℕ) (bytes behind : List ℕ) (r : Rest) → parsed W bytes ≡ capped p → parsed H behind ≡ capped (number bytes)
      → r ≡ closing format behind → of_rest format W H r ≡ capped_header (of_width format p)
  both_sides W H bytes behind r width height closed =
      sym
      (width_capped format p
      ∙ ap (λ (q : Parsed). of_width_kept format q) (sym width)
      ∙ ap (λ (q : Parsed). of_height_kept format W q) (sym height)
      ∙ ap (λ (q : Rest). of_rest format W H q) (sym closed))

-- a magic: std's test is the definition
pub begins : (magic file : List ℕ) → pointwise eqb magic (take (length magic) file) ≡ starts_with magic file
unfolding starts_with
begins [] file = refl
begins (first ∷ others) [] = refl
begins (first ∷ others) (byte ∷ bytes) = rw (begins others bytes) (and_is (eqb first byte) (starts_with others bytes))
  where
    and_is : (a b : Bool) → (a && b) ≡ cond a b false
    and_is true b = refl
    and_is false b = refl

pub starts_long : (magic file : List ℕ) → starts_with magic file ≡ true → length magic ≤ length file
unfolding starts_with
starts_long [] file e = omega arith
starts_long (first ∷ others) [] e = let z : ◌≡◌ {A = ℕ} 0 1 = cc in absurd (omega arith)
starts_long (first ∷ others) (byte ∷ bytes) e = omega
    (arith, starts_long others bytes (second_true (eqb first byte) (starts_with others bytes) e))
  where
    second_true : (a b : Bool) → cond a b false ≡ true → b ≡ true
    second_true true b e = e
    second_true false b e = let z : ◌≡◌ {A = ℕ} 0 1 = cc in absurd (omega arith)
