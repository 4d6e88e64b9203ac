-- A search over signed columns is a search over places: from the left edge, or, for the last column, mirrored from the right.
-- Assumes nothing.
use Rattle.std.specs.Prelude.{Some, None}
use mathlib.Core.Path.{◌≡◌, refl, sym, ap, ◌∙◌}
use mathlib.Core.Bool.{Bool, true, false, cond}
use Prim.Native.Nat.{ℕ, zero, suc, ◌+◌, ◌-◌, ◌≤◌, ◌<◌}
use native.Mathlib.Nat.{le_refl}
use native.Mathlib.Omega.{arith}
use lib.IntN.{ℤ, pos, ◌+ℤ◌}
use Rattle.signed.proofs.Laws.{int, add_law}
use Rattle.scanline.specs.Columns.{Column, found, none, first_column, last_column}
use Rattle.scanline.specs.Places.{find_from, Place}

-- ---- columns counted from the left edge
pub column_zero : (left : ℤ) → left ≡ left +ℤ pos 0
column_zero left = omega (arith, int)

pub column_next : (left : ℤ) (k : ℕ) → left +ℤ pos k +ℤ pos 1 ≡ left +ℤ pos (suc k)
column_next left k = omega (arith, int, add_law left (pos k), add_law (left +ℤ pos k) (pos 1))

-- the column of a place counted from the left edge, and of one counted from the last of n columns
abbrev pub from_left : ℤ → Place → Column
from_left left (Some k) = found (left +ℤ pos k)
from_left left None = none

abbrev pub from_right : ℤ → ℕ → Place → Column
from_right left n (Some k) = found (left +ℤ pos (n - 1 - k))
from_right left n None = none

module _ (test : ℤ → Bool) (here : ℕ → Bool) (left : ℤ) where
  pub first_from_left : (n k : ℕ) → ((i : ℕ) → k ≤ i → i < k + n → test (left +ℤ pos i) ≡ here i)
      → first_column test (left +ℤ pos k) n ≡ from_left left (find_from here n k)
  unfolding first_column find_from
  first_from_left zero k agree = refl
  first_from_left (suc n) k agree =
      rw (agree k (le_refl k) (omega arith))
      (by_test (here k)
      (ap (λ (z : ℤ). first_column test z n) (column_next left k)
      ∙ first_from_left n (suc k) (λ i ki il. agree i (omega arith) (omega arith))))
    where
      by_test : (b : Bool) → first_column test (left +ℤ pos k +ℤ pos 1) n ≡ from_left left (find_from here n (suc k))
          → cond b (found (left +ℤ pos k)) (first_column test (left +ℤ pos k +ℤ pos 1) n)
          ≡ from_left left (cond b (Some k) (find_from here n (suc k)))
      by_test true later = refl
      by_test false later = later

  pub first_from_edge : (n : ℕ) → ((k : ℕ) → k < n → test (left +ℤ pos k) ≡ here k)
      → first_column test left n ≡ from_left left (find_from here n 0)
  first_from_edge n agree =
      ap (λ (z : ℤ). first_column test z n) (column_zero left) ∙ first_from_left n 0 (λ i _ il. agree i (omega arith))

  -- m columns are left, and k places of the n have been passed
  last_passed : (n m k : ℕ) → k + m ≡ n → ((i : ℕ) → k ≤ i → i < n → test (left +ℤ pos (n - 1 - i)) ≡ here i)
      → last_column test left m ≡ from_right left n (find_from here m k)
  unfolding last_column find_from
  last_passed n zero k e agree = refl
  last_passed n (suc m) k e agree =
      rw agree_here (by_test (here k) (last_passed n m (suc k) (omega arith) (λ i ki il. agree i (omega arith) il)))
    where
      place : n - 1 - k ≡ m
      place = omega arith

      agree_here : test (left +ℤ pos m) ≡ here k
      agree_here = ap (λ (i : ℕ). test (left +ℤ pos i)) (sym place) ∙ agree k (le_refl k) (omega arith)

      by_test : (b : Bool) → last_column test left m ≡ from_right left n (find_from here m (suc k))
          → cond b (found (left +ℤ pos m)) (last_column test left m) ≡ from_right left n (cond b (Some k) (find_from here m (suc k)))
      by_test true later = ap (λ (i : ℕ). found (left +ℤ pos i)) (sym place)
      by_test false later = later

  pub last_from_edge : (n : ℕ) → ((k : ℕ) → k < n → test (left +ℤ pos (n - 1 - k)) ≡ here k)
      → last_column test left n ≡ from_right left n (find_from here n 0)
  last_from_edge n agree = last_passed n n 0 (omega arith) (λ i _ il. agree i il)
