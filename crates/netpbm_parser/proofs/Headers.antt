-- A header that was written is read: its format, its two numbers, and the bytes behind it.
-- Assumes nothing.
use mathlib.Core.Path.{◌≡◌, refl, ap, ◌∙◌}
use mathlib.Core.Bool.{Bool, true, false, cond}
use mathlib.Core.List.{List, [], ◌∷◌, ◌++◌, append_assoc}
use Prim.Native.Nat.{ℕ, zero, suc, ◌+◌, ◌*◌, ◌/◌, ◌%◌, ◌≤◌, ◌<◌}
use native.Mathlib.Omega.{arith}
use borrow.Author.Tests.{le-leb, ne_eqb, ltb-true, ltb-false}
use lib.Dec.{ltb}
use Rattle.netpbm_text.specs.Decimal.{digit, decimal_up_to, decimal}
use Rattle.netpbm_header.specs.declared.Format.{Format}
use Rattle.netpbm_header.specs.declared.Format.TheVariants.{P4, P5}
use Rattle.netpbm_header.specs.Header.{header}
use Rattle.netpbm_text.specs.Bytes.{white, hash, is_digit}
use Rattle.netpbm_parser.specs.Parser.{parsed, digits, digits_from, after_gap, number, after_white, after_maximum, rest, headed, starts_with, file_header}
use Rattle.netpbm_text.proofs.Bytes.{digit_least}

-- a digit as it is written is one
written_digit : (d : ℕ) → d < 10 → is_digit (digit d) ≡ true
unfolding is_digit
written_digit d h = rw (le-leb 48 (digit d) (omega arith), le-leb (digit d) 57 (omega arith))

-- the first byte is a digit
abbrev starts_digit : List ℕ → Bool
starts_digit [] = false
starts_digit (byte ∷ bytes) = is_digit byte

-- so is that of a number in decimal, whatever stands behind it
starts_up_to : (most n : ℕ) (behind : List ℕ) → n < most → starts_digit (decimal_up_to most n ++ behind) ≡ true
unfolding decimal_up_to
starts_up_to zero n behind h = absurd (omega arith)
starts_up_to (suc most) n behind h = by_test (ltb n 10) refl (λ (r : List ℕ) (large : 10 ≤ n). starts_up_to most (n / 10) r (omega arith))
  where
    by_test : (t : Bool) → ltb n 10 ≡ t → ((r : List ℕ) → 10 ≤ n → starts_digit (decimal_up_to most (n / 10) ++ r) ≡ true)
        → starts_digit (cond t (digit n ∷ []) (decimal_up_to most (n / 10) ++ (digit (n % 10) ∷ [])) ++ behind) ≡ true
    by_test true small front = written_digit n (ltb-true n 10 small)
    by_test false large front = rw append_assoc (front (digit (n % 10) ∷ behind) (ltb-false n 10 large))

-- read digit by digit, a number in decimal is that number
last_digit : (n d : ℕ) (behind : List ℕ) → d < 10 → digits_from n (digit d ∷ behind) ≡ digits_from (10 * n + d) behind
unfolding digits_from
last_digit n d behind h = rw (written_digit d h) (ap (λ (k : ℕ). digits_from (10 * n + k) behind) (omega arith))

read_up_to : (most n : ℕ) (behind : List ℕ) → n < most → digits_from 0 (decimal_up_to most n ++ behind) ≡ digits_from n behind
unfolding decimal_up_to
read_up_to zero n behind h = absurd (omega arith)
read_up_to (suc most) n behind h =
    by_test (ltb n 10) refl (λ (r : List ℕ) (large : 10 ≤ n). read_up_to most (n / 10) r (omega arith))
  where
    by_test : (t : Bool) → ltb n 10 ≡ t
        → ((r : List ℕ) → 10 ≤ n → digits_from 0 (decimal_up_to most (n / 10) ++ r) ≡ digits_from (n / 10) r)
        → digits_from 0 (cond t (digit n ∷ []) (decimal_up_to most (n / 10) ++ (digit (n % 10) ∷ [])) ++ behind) ≡ digits_from n behind
    by_test true small front = last_digit 0 n behind (ltb-true n 10 small) ∙ ap (λ (k : ℕ). digits_from k behind) (omega arith)
    by_test false large front =
        rw append_assoc
        (front (digit (n % 10) ∷ behind) (ltb-false n 10 large)
        ∙ last_digit (n / 10) (n % 10) behind (omega arith)
        ∙ ap (λ (k : ℕ). digits_from k behind) (omega arith))

-- a byte that is a digit is no whitespace and begins no comment
digit_apart : (byte : ℕ) → is_digit byte ≡ true → (white byte ≡ false) × (hash byte ≡ false)
unfolding white hash
digit_apart byte e =
    let least = digit_least byte e in (
      rw (
        ne_eqb byte 32 (λ (h : byte ≡ 32). omega arith),
        ne_eqb byte 9 (λ (h : byte ≡ 9). omega arith),
        ne_eqb byte 13 (λ (h : byte ≡ 13). omega arith),
        ne_eqb byte 10 (λ (h : byte ≡ 10). omega arith),
      ),
      ne_eqb byte 35 (λ (h : byte ≡ 35). omega arith),
    )

digits_follow : (bytes : List ℕ) → starts_digit bytes ≡ true → after_gap false bytes ≡ digits_from 0 bytes
unfolding after_gap digits
digits_follow [] e = let z : ◌≡◌ {A = ℕ} 0 1 = cc in absurd (omega arith)
digits_follow (byte ∷ bytes) e = rw ((digit_apart byte e).0, (digit_apart byte e).1, e)

-- after one whitespace byte, and before a byte that is no digit, a number in decimal is read
number_read : (before n after : ℕ) (behind : List ℕ) → white before ≡ true → is_digit after ≡ false
    → number (before ∷ (decimal n ++ (after ∷ behind))) ≡ parsed n (after ∷ behind)
unfolding number after_gap digits_from decimal
number_read before n after behind is other =
    rw is
    (digits_follow (decimal_up_to (suc n) n ++ (after ∷ behind)) (starts_up_to (suc n) n (after ∷ behind) (omega arith))
    ∙ read_up_to (suc n) n (after ∷ behind) (omega arith)
    ∙ rw other)

-- a header that was written, whatever stands behind it
p4_bytes : (W H : ℕ) (behind : List ℕ)
    → header P4 W H ++ behind ≡ 80 ∷ 52 ∷ 10 ∷ (decimal W ++ (32 ∷ (decimal H ++ (10 ∷ behind))))
unfolding header
p4_bytes W H behind = simp append_assoc

p5_bytes : (W H : ℕ) (behind : List ℕ)
    → header P5 W H ++ behind ≡ 80 ∷ 53 ∷ 10 ∷ (decimal W ++ (32 ∷ (decimal H ++ (10 ∷ 50 ∷ 53 ∷ 53 ∷ 10 ∷ behind))))
unfolding header
p5_bytes W H behind = simp append_assoc

-- the maximum and the whitespace byte behind it
maximum_read : (behind : List ℕ) → after_maximum (number (10 ∷ 50 ∷ 53 ∷ 53 ∷ 10 ∷ behind)) ≡ rest behind
unfolding after_maximum after_white number after_gap digits digits_from is_digit white hash
maximum_read behind = refl

pub header_read : (format : Format) (W H : ℕ) (behind : List ℕ) → file_header (header format W H ++ behind) ≡ headed format W H behind
unfolding file_header starts_with after_white white is_digit
header_read P4 W H behind =
    rw (p4_bytes W H behind, number_read 10 W 32 (decimal H ++ (10 ∷ behind)) refl refl, number_read 32 H 10 behind refl refl)
header_read P5 W H behind =
    rw (
      p5_bytes W H behind,
      number_read 10 W 32 (decimal H ++ (10 ∷ 50 ∷ 53 ∷ 53 ∷ 10 ∷ behind)) refl refl,
      number_read 32 H 10 (50 ∷ 53 ∷ 53 ∷ 10 ∷ behind) refl refl,
      maximum_read behind,
    )
