-- `replay_lines::names::find` ends, since each turn goes on to a later line; it has passed no more lines than bytes.
use Rattle.std.proofs.Common.{◌-◌, ◌≤◌, length}
use Rattle.replay_lines.proofs.names.find.Given as goal

abbrev pub invariant-loop-start : goal.invariant-loop-start
invariant-loop-start l = (l.call ≤ l.start) × (l.start ≤ length l.table)

abbrev pub decreases-loop-start : goal.decreases-loop-start
decreases-loop-start l = length l.table - l.start
