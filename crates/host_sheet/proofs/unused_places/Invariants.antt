-- `host_sheet::unused_places` meets its contract. Invariant: the paints of the first j places are absent.
use mathlib.Core.Path.{◌≡◌}
use Rattle.host_sheet.proofs.Unused.{unused_up_to}
use Rattle.host_sheet.proofs.unused_places.Given as goal

abbrev pub invariant-loop-j : goal.invariant-loop-j
invariant-loop-j l = l.numbers ≡ unused_up_to l.j
