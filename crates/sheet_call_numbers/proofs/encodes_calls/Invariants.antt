-- `sheet_call_numbers::encodes_calls` meets its contract: the length is a multiple of a call's, and whether the calls that are left are
-- calls is whether all are.
use mathlib.Core.Path.{◌≡◌}
use Prim.Native.Nat.{◌-◌}
use Rattle.sheet_call_numbers.specs.CallNumbers.{are_calls}
use Rattle.sheet_call_numbers.proofs.encodes_calls.Given as goal

abbrev pub invariant-loop-j : goal.invariant-loop-j
invariant-loop-j l = are_calls l.numbers l.j (l.count - l.j) ≡ are_calls l.numbers 0 l.count
