-- `canvas_run::fill` meets its contract. The invariant: the part up to the index is of that colour, and the rest as it was.
use mathlib.Core.Path.{◌≡◌}
use mathlib.Core.List.{◌++◌}
use lib.ListN.{drop, replicate}
use Rattle.canvas_run.proofs.fill.Given as goal

abbrev pub invariant-loop-byte : goal.invariant-loop-byte
invariant-loop-byte l = l.part ≡ replicate l.byte-index l.colour ++ drop l.byte-index l.initial.part
