-- `host_sheet_record::holds_records` meets its contract: the first three numbers, and what is asked of all used places is asked of those
-- that are left.
use mathlib.Core.Path.{◌≡◌}
use Prim.Native.Nat.{◌-◌, ◌≤◌}
use Rattle.geometry.specs.Limits.{max_layers}
use Rattle.host_records.specs.RecordNumbers.{all_from}
use Rattle.host_sheet_record.specs.SheetRecord.{place_numbers, is_layer}
use Rattle.host_sheet_record.proofs.holds_records.Given as goal

abbrev pub invariant-loop-j : goal.invariant-loop-j
invariant-loop-j l =
    (l.used ≤ max_layers) × (all_from (λ k. is_layer (place_numbers l.numbers k)) l.j (l.used - l.j) ≡ all_from
    (λ k. is_layer (place_numbers l.numbers k)) 0 l.used)
