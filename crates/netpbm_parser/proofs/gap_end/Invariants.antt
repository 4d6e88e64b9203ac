-- `netpbm_parser::gap_end` meets its contract. Invariant: what follows the gap is what follows it from the place reached on. A piece
-- takes at least
-- a byte, so the walk ends.
use mathlib.Core.Path.{◌≡◌}
use mathlib.Core.Bool.{false}
use Prim.Native.Nat.{◌≤◌, ◌-◌}
use lib.ListN.{length, drop}
use Rattle.netpbm_parser.specs.Parser.{after_gap}
use Rattle.netpbm_parser.proofs.gap_end.Given as goal

abbrev pub invariant-loop-i : goal.invariant-loop-i
invariant-loop-i l = (l.i ≤ length l.file) × (after_gap false (drop l.at l.file) ≡ after_gap false (drop l.i l.file))

abbrev pub decreases-loop-i : goal.decreases-loop-i
decreases-loop-i l = length l.file - l.i
