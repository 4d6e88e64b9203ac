-- The part of a list that is lent for a call.
-- Assumes nothing.
use mathlib.Core.Path.{◌≡◌, ap}
use mathlib.Core.List.{List}
use Prim.Native.Nat.{ℕ, ◌+◌, ◌*◌, ◌-◌, ◌≤◌}
use native.Mathlib.Omega.{arith}
use lib.IntN.{ℤ}
use lib.ListN.{length, take, drop, length-take, length-drop}
use Rattle.sheet_call_numbers.specs.CallNumbers.{call_length, call_numbers}

module _ (numbers : List ℤ) (j : ℕ) where
  pub call_part : take (call_length * j + call_length - call_length * j) (drop (call_length * j) numbers) ≡ call_numbers numbers j
  call_part =
      let long : call_length * j + call_length - call_length * j ≡ call_length = omega arith in
      ap (λ (n : ℕ). take n (drop (call_length * j) numbers)) long

  pub call_part_length : call_length * j + call_length ≤ length numbers → length
      (take (call_length * j + call_length - call_length * j) (drop (call_length * j) numbers)) ≡ call_length
  call_part_length within = simp (length-take, length-drop) (omega arith)
