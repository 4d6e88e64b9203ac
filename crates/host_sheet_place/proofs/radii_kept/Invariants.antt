-- `host_sheet_place::radii_kept` meets its contract. Invariant: what is found so far and what is asked of the radii that are left
-- make what is asked of all.
use mathlib.Core.Path.{◌≡◌}
use mathlib.Core.Bool.{◌&&◌}
use Prim.Native.Nat.{◌-◌}
use Rattle.host_records.specs.RecordNumbers.{figure_length, radii_at, number_at, all_from}
use Rattle.host_sheet_place.specs.PlaceRules.{radius_kept}
use Rattle.host_sheet_place.proofs.radii_kept.Given as goal

abbrev pub invariant-loop-k : goal.invariant-loop-k
invariant-loop-k l =
    (l.kept && all_from (λ j. radius_kept l.any (number_at l.numbers j)) l.k (figure_length - l.k)) ≡ all_from
    (λ j. radius_kept l.any (number_at l.numbers j)) radii_at (figure_length - radii_at)
