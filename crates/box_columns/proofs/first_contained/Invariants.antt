-- `box_columns::first_contained` meets its contract. The invariant: what is left to look through has the same answer as the
-- whole.
use mathlib.Core.Path.{◌≡◌}
use Rattle.rounded_rectangle.specs.Relative.{radii}
use Rattle.box_columns.specs.Columns.{first_contained}
use Rattle.box_columns.proofs.first_contained.Given as goal

abbrev pub invariant-loop-dx : goal.invariant-loop-dx
invariant-loop-dx l = first_contained (radii l.b) l.b.size l.dy l.dx l.to ≡ first_contained (radii l.b) l.b.size l.dy l.from l.to
