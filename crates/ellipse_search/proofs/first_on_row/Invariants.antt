-- `ellipse_search::first_on_row` meets its contract. The invariant: between lo and hi lies the first inside column; before lo all are
-- outside, hi is inside.
use Prim.Native.Nat.{◌-◌}
use Rattle.scanline.proofs.Find.{Bracket}
use Rattle.ellipse_search.specs.Row.{column_on_row}
use Rattle.ellipse_search.proofs.first_on_row.Given as goal

abbrev pub invariant-loop-lo : goal.invariant-loop-lo
invariant-loop-lo l = Bracket (column_on_row l.row l.width) l.from l.nearest l.lo l.hi

abbrev pub decreases-loop-lo : goal.decreases-loop-lo
decreases-loop-lo l = l.hi - l.lo
