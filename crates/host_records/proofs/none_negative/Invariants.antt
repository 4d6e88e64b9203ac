-- `host_records::none_negative` meets its contract: what is asked of all numbers is asked of those that are left.
use mathlib.Core.Path.{◌≡◌}
use lib.ListN.{drop}
use Rattle.host_records.specs.RecordNumbers.{none_negative}
use Rattle.host_records.proofs.none_negative.Given as goal

abbrev pub invariant-loop-n : goal.invariant-loop-n
invariant-loop-n l = none_negative (drop l.n-index l.numbers) ≡ none_negative l.numbers
