-- `ellipse_search::walk_right` meets its contract. The invariant: all columns after the start and before k are outside.
use mathlib.Core.Path.{◌≡◌}
use mathlib.Core.Bool.{false}
use Prim.Native.Nat.{ℕ, ◌<◌}
use Rattle.ellipse_search.specs.Row.{column_on_row}
use Rattle.ellipse_search.proofs.walk_right.Given as goal

abbrev pub invariant-loop-k : goal.invariant-loop-k
invariant-loop-k l = (i : ℕ) → l.start < i → i < l.k → column_on_row l.row l.width i ≡ false
