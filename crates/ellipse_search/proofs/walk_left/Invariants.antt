-- `ellipse_search::walk_left` meets its contract. The invariant: k is inside; where the column before it is outside, so are all before.
use mathlib.Core.Path.{◌≡◌}
use mathlib.Core.Bool.{true}
use Prim.Native.Nat.{◌≤◌}
use Rattle.ellipse_search.specs.Row.{column_on_row}
use Rattle.ellipse_search.proofs.walk_left.Given as goal

abbrev pub invariant-loop-k : goal.invariant-loop-k
invariant-loop-k l = (l.from ≤ l.k) × (column_on_row l.row l.width l.k ≡ true)
