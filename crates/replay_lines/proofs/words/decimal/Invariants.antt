-- `replay_lines::words::decimal` ends and stays within the line; before a digit that would take it beyond 32 bits it returns.
use Rattle.std.proofs.Common.{◌-◌, ◌≤◌, max, length}
use Rattle.replay_lines.proofs.words.decimal.Given as goal

abbrev pub invariant-loop-at : goal.invariant-loop-at
invariant-loop-at l = l.at ≤ max l.from (length l.line)

abbrev pub decreases-loop-at : goal.decreases-loop-at
decreases-loop-at l = length l.line - l.at
