-- `sheet_calls::make_calls` meets its contract: the calls that are left make of what is reached what all make of the start.
use mathlib.Core.Path.{◌≡◌}
use lib.ListN.{length}
use Rattle.sheet_calls.proofs.Runs.{CallsLeft}
use Rattle.sheet_calls.proofs.make_calls.Given as goal

abbrev pub invariant-loop-j : goal.invariant-loop-j
invariant-loop-j l =
    (length l.answers ≡ length l.initial.answers) × (length l.canvas ≡ length l.initial.canvas)
    × CallsLeft l.background l.numbers l.count l.initial.current l.initial.canvas l.initial.answers l.j l.current l.canvas l.answers
