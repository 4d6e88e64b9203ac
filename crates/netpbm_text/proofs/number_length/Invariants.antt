-- `netpbm_text::number_length` meets its contract. Invariant: the digits counted beyond one, with those that the rest has, are
-- those of the number. A turn takes one digit from the rest, and the rest falls with it, so the count never passes the number.
use mathlib.Core.Path.{◌≡◌}
use Prim.Native.Nat.{◌+◌, ◌≤◌}
use lib.ListN.{length}
use Rattle.netpbm_text.specs.Decimal.{decimal}
use Rattle.netpbm_text.proofs.number_length.Given as goal

abbrev pub invariant-loop-rest : goal.invariant-loop-rest
invariant-loop-rest l = (l.digits + length (decimal l.rest) ≡ length (decimal l.n) + 1) × (l.digits + l.rest ≤ l.n + 1)

abbrev pub decreases-loop-rest : goal.decreases-loop-rest
decreases-loop-rest l = l.rest
