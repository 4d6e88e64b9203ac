-- The steps of the code and the definitions: pixels weighed one by one make the packed byte, and a byte shifted out gives its pixels. And
-- back: the bits of a packed byte are those of its pixels, and the pixels of a byte pack to it.
-- Assumes nothing.
use mathlib.Core.Path.{◌≡◌, refl, sym, ap, ◌∙◌}
use mathlib.Core.Bool.{Bool, true, false, cond, ◌&&◌}
use mathlib.Core.List.{List, [], ◌∷◌, ◌++◌, append-nil}
use Prim.Native.Nat.{ℕ, zero, suc, ◌+◌, ◌*◌, ◌/◌, ◌%◌, ◌-◌, ◌≤◌, ◌<◌}
use native.Mathlib.Numerals.{add-one}
use native.Mathlib.Omega.{arith}
use borrow.Author.Tests.{ltb-true, ltb-false, eqb-true, ne_eqb}
use lib.Dec.{ltb, eqb}
use lib.ListN.{length, take, drop, get_or, set, drop_of_length-le}
use lib.Seq.{drop-cons, take-suc-set, take_all, append_snoc}
use Rattle.netpbm_text.proofs.Bytes.{and_true_parts}
use Rattle.netpbm_raster.specs.Raster.{bit, packed_byte, pixels_of}
use Rattle.netpbm_raster.specs.Steps.{shifted_out}

-- what pixels add to a byte if the first weighs so much and each other half of the one before; behind weight 1 they weigh nothing
unfoldable pub weighed : ℕ → List ℕ → ℕ
weighed weight [] = 0
weighed weight (pixel ∷ row) = weight * bit pixel + weighed (weight / 2) row

-- behind weight 1 pixels weigh nothing
weighed_nothing : (row : List ℕ) → weighed 0 row ≡ 0
unfolding weighed
weighed_nothing [] = refl
weighed_nothing (pixel ∷ row) = omega (arith, weighed_nothing row)

pub weightless : (weight : ℕ) (row : List ℕ) → weight ≡ 0 → weighed weight row ≡ 0
weightless weight row e = rw e (weighed_nothing row)

pub weighed_packed : (row : List ℕ) → weighed 128 row ≡ packed_byte row
unfolding weighed packed_byte bit
weighed_packed [] = refl
weighed_packed (a ∷ []) = omega arith
weighed_packed (a ∷ b ∷ []) = omega arith
weighed_packed (a ∷ b ∷ c ∷ []) = omega arith
weighed_packed (a ∷ b ∷ c ∷ d ∷ []) = omega arith
weighed_packed (a ∷ b ∷ c ∷ d ∷ e ∷ []) = omega arith
weighed_packed (a ∷ b ∷ c ∷ d ∷ e ∷ f ∷ []) = omega arith
weighed_packed (a ∷ b ∷ c ∷ d ∷ e ∷ f ∷ g ∷ []) = omega arith
weighed_packed (a ∷ b ∷ c ∷ d ∷ e ∷ f ∷ g ∷ h ∷ row) = omega (arith, weighed_nothing row)

-- of pixels from a place of a row on: the first and the others, or none
pub weighed_step : (row : List ℕ) (i weight : ℕ) → i < length row
    → weighed weight (drop i row) ≡ weight * bit (get_or row i 0) + weighed (weight / 2) (drop (i + 1) row)
unfolding weighed
weighed_step row i weight h = rw (add-one, drop-cons row i 0 h)

pub weighed_end : (row : List ℕ) (i weight : ℕ) → length row ≤ i → weighed weight (drop i row) ≡ 0
unfolding weighed
weighed_end row i weight h = rw (drop_of_length-le row {i = i} h)

-- a turn of shifting: the bit written and those of the byte shifted up
pub shifted_step : (l : List ℕ) (i n byte : ℕ) → i < n → length l ≡ n
    → take (i + 1) (set l i (byte / 128)) ++ shifted_out (n - (i + 1)) (byte % 128 * 2) ≡ take i l ++ shifted_out (n - i) byte
unfolding shifted_out
shifted_step l i n byte h long =
    let left : n - i ≡ suc (n - (i + 1)) = omega arith in
    let inside : i < length l = omega arith in
    rw (left, add-one, take-suc-set l i (byte / 128) inside) (append_snoc (take i l) (byte / 128) _)

-- after the last turn the list is what was shifted out
pub shifted_done : (l whole : List ℕ) (i n byte : ℕ) → n ≤ i → length l ≡ n → take i l ++ shifted_out (n - i) byte ≡ whole → l ≡ whole
unfolding shifted_out
shifted_done l whole i n byte h long e =
    let none : n - i ≡ 0 = omega arith in
    let all : length l ≤ i = omega arith in
    sym (take_all i l all) ∙ sym (append-nil (take i l)) ∙ rw none at e

-- fewer bits are the first of more
pub shifted_first : (n m byte : ℕ) → n ≤ m → shifted_out n byte ≡ take n (shifted_out m byte)
unfolding shifted_out
shifted_first zero m byte h = refl
shifted_first (suc n) zero byte h = absurd (omega arith)
shifted_first (suc n) (suc m) byte h = ap (λ (l : List ℕ). byte / 128 ∷ l) (shifted_first n m (byte % 128 * 2) (omega arith))

-- a rule that holds of every number below n, computed
holds_below : ℕ → (ℕ → Bool) → Bool
holds_below zero rule = true
holds_below (suc n) rule = rule n && holds_below n rule

holds_at : (n : ℕ) (rule : ℕ → Bool) → holds_below n rule ≡ true → (k : ℕ) → k < n → rule k ≡ true
unfolding holds_below
holds_at zero rule e k h = absurd (omega arith)
holds_at (suc n) rule e k h =
    by_test (ltb k n) refl (λ (below : k < n). holds_at n rule (and_true_parts (rule n) (holds_below n rule) e).1 k below)
  where
    by_test : (t : Bool) → ltb k n ≡ t → (k < n → rule k ≡ true) → rule k ≡ true
    by_test true below earlier = earlier (ltb-true k n below)
    by_test false above earlier =
        let last : n ≡ k = omega (arith, ltb-false k n above) in
        rw last at (and_true_parts (rule n) (holds_below n rule) e).0

-- two lists of numbers, compared
same : List ℕ → List ℕ → Bool
same [] [] = true
same [] (b ∷ ys) = false
same (a ∷ xs) [] = false
same (a ∷ xs) (b ∷ ys) = eqb a b && same xs ys

same_equal : (xs ys : List ℕ) → same xs ys ≡ true → xs ≡ ys
unfolding same
same_equal [] [] e = refl
same_equal [] (b ∷ ys) e = let z : ◌≡◌ {A = ℕ} 0 1 = cc in absurd (omega arith)
same_equal (a ∷ xs) [] e = let z : ◌≡◌ {A = ℕ} 0 1 = cc in absurd (omega arith)
same_equal (a ∷ xs) (b ∷ ys) e =
    rw (eqb-true a b (and_true_parts (eqb a b) (same xs ys) e).0, same_equal xs ys (and_true_parts (eqb a b) (same xs ys) e).1)

-- of every byte: shifted out it gives its pixels
shifted_all : holds_below 256 (λ (byte : ℕ). same (shifted_out 8 byte) (pixels_of byte)) ≡ true
unfolding holds_below same shifted_out pixels_of
shifted_all = refl

pub shifted_pixels : (byte : ℕ) → byte < 256 → shifted_out 8 byte ≡ pixels_of byte
shifted_pixels byte h = same_equal (shifted_out 8 byte) (pixels_of byte)
    (holds_at 256 (λ (b : ℕ). same (shifted_out 8 b) (pixels_of b)) shifted_all byte h)

-- of every byte: its pixels pack to it
repacked_all : holds_below 256 (λ (byte : ℕ). eqb (packed_byte (pixels_of byte)) byte) ≡ true
unfolding holds_below packed_byte pixels_of bit
repacked_all = refl

pub pixels_packed : (byte : ℕ) → byte < 256 → packed_byte (pixels_of byte) ≡ byte
pixels_packed byte h =
    eqb-true (packed_byte (pixels_of byte)) byte (holds_at 256 (λ (b : ℕ). eqb (packed_byte (pixels_of b)) b) repacked_all byte h)

-- a bit is 0 or 1, by whether the pixel is 0
pub bit_of_zero : (pixel : ℕ) → pixel ≡ 0 → bit pixel ≡ 0
unfolding bit
bit_of_zero pixel e = rw e

pub bit_of_other : (pixel : ℕ) → (pixel ≡ 0 → ⊥) → bit pixel ≡ 1
unfolding bit
bit_of_other pixel other = rw (ne_eqb pixel 0 other)

pub bit_most : (pixel : ℕ) → bit pixel ≤ 1
unfolding bit
bit_most pixel = by_test (eqb pixel 0)
  where
    by_test : (t : Bool) → cond t 0 1 ≤ 1
    by_test true = omega arith
    by_test false = omega arith

-- the bits of the eight pixels that make a byte
abbrev pub eight_bits : List ℕ → List ℕ
eight_bits row =
    bit (get_or row 0 0) ∷ bit (get_or row 1 0) ∷ bit (get_or row 2 0) ∷ bit (get_or row 3 0) ∷ bit (get_or row 4 0) ∷ bit (get_or row 5 0)
    ∷ bit (get_or row 6 0) ∷ bit (get_or row 7 0) ∷ []

-- a packed byte has them as its pixels
pixels_of_sum : (a b c d e f g h : ℕ) → a ≤ 1 → b ≤ 1 → c ≤ 1 → d ≤ 1 → e ≤ 1 → f ≤ 1 → g ≤ 1 → h ≤ 1
    → pixels_of (128 * a + (64 * b + (32 * c + (16 * d + (8 * e + (4 * f + (2 * g + h)))))))
    ≡ a ∷ b ∷ c ∷ d ∷ e ∷ f ∷ g ∷ h ∷ []
unfolding pixels_of
pixels_of_sum a b c d e f g h p q r s t u v w =
    let sum = 128 * a + (64 * b + (32 * c + (16 * d + (8 * e + (4 * f + (2 * g + h)))))) in
    let a' : sum / 128 % 2 ≡ a = omega arith in
    let b' : sum / 64 % 2 ≡ b = omega arith in
    let c' : sum / 32 % 2 ≡ c = omega arith in
    let d' : sum / 16 % 2 ≡ d = omega arith in
    let e' : sum / 8 % 2 ≡ e = omega arith in
    let f' : sum / 4 % 2 ≡ f = omega arith in
    let g' : sum / 2 % 2 ≡ g = omega arith in
    let h' : sum % 2 ≡ h = omega arith in
    λ i. a' i ∷ b' i ∷ c' i ∷ d' i ∷ e' i ∷ f' i ∷ g' i ∷ h' i ∷ []

pub pixels_of_packed : (row : List ℕ) → pixels_of (packed_byte row) ≡ eight_bits row
unfolding packed_byte
pixels_of_packed row =
    pixels_of_sum _ _ _ _ _ _ _ _ (bit_most (get_or row 0 0)) (bit_most (get_or row 1 0)) (bit_most (get_or row 2 0)) (bit_most (get_or row 3 0))
    (bit_most (get_or row 4 0)) (bit_most (get_or row 5 0)) (bit_most (get_or row 6 0)) (bit_most (get_or row 7 0))
