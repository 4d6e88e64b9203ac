-- `host_sheet_record::move_down` meets its contract. Invariant: the numbers that are left, moved to their places, make the whole, and
-- what stands from k on is as it was.
use mathlib.Core.Path.{◌≡◌}
use mathlib.Core.List.{List}
use Prim.Native.Nat.{ℕ, ◌+◌, ◌-◌, ◌≤◌}
use lib.IntN.{ℤ}
use lib.ListN.{length, drop}
use lib.Seq.{sets}
use Rattle.host_sheet_record.specs.SheetRecord.{layer_length, sheet_length, moved_down}
use Rattle.host_sheet_record.proofs.move_down.Given as goal

pub record Moved (numbers₀ : List ℤ) (place : ℕ) (numbers : List ℤ) (k : ℕ) : Type 0 where
  pub up_to : k ≤ sheet_length - layer_length
  pub long : length numbers ≡ sheet_length
  pub left : sets numbers k (drop (k + layer_length) numbers₀) ≡ moved_down numbers₀ place
  pub still : drop k numbers ≡ drop k numbers₀

abbrev pub invariant-loop-k : goal.invariant-loop-k
invariant-loop-k l = (length l.initial.numbers ≡ sheet_length) × Moved l.initial.numbers l.place l.numbers l.k
