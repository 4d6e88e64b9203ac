-- `box_columns::last_contained` meets its contract. The invariant: what is left to look through has the same answer as the
-- whole. At the last place the test holds.
use mathlib.Core.Path.{◌≡◌}
use Prim.Native.Nat.{◌+◌}
use Rattle.rounded_rectangle.specs.Relative.{radii}
use Rattle.box_columns.specs.Columns.{last_contained}
use Rattle.box_columns.proofs.last_contained.Given as goal

abbrev pub invariant-loop-k : goal.invariant-loop-k
invariant-loop-k l =
    last_contained (radii l.b) l.b.size l.dy l.k (l.to + 1) ≡ last_contained (radii l.b) l.b.size l.dy l.from (l.to + 1)
