-- `host_sheet_record::places_of` meets its contract. Invariant: the places that are left, put from j on, make all 16.
use mathlib.Core.Path.{◌≡◌}
use Prim.Native.Nat.{◌-◌}
use lib.ListN.{length}
use lib.Seq.{sets}
use Rattle.geometry.specs.Limits.{max_layers}
use Rattle.host_records.specs.RecordNumbers.{list_from}
use Rattle.host_sheet_record.specs.SheetRecord.{place_numbers, layer_of}
use Rattle.host_sheet_record.proofs.places_of.Given as goal

abbrev pub invariant-loop-j : goal.invariant-loop-j
invariant-loop-j l =
    (length l.places ≡ max_layers) ×
    (sets l.places l.j (list_from (λ k. layer_of (place_numbers l.numbers k)) l.j (max_layers - l.j)) ≡ list_from
    (λ k. layer_of (place_numbers l.numbers k)) 0 max_layers)
