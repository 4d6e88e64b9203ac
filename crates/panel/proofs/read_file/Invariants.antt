-- `panel::read_file` ends, since each turn reads a byte at least, and stays within the file.
use Rattle.std.proofs.Common.{length, ◌-◌, ◌≤◌}
use Rattle.panel.proofs.read_file.Given as goal

abbrev pub invariant-loop-count : goal.invariant-loop-count
invariant-loop-count g l = l.count ≤ length l.file

abbrev pub decreases-loop-count : goal.decreases-loop-count
decreases-loop-count g l = length l.initial.file - l.count
