-- `figure_points::count_points` meets its contract. The invariant: n points stand in the dy rows passed, and with those left they
-- are all (`CountLeft`).
use Rattle.figure_points.proofs.Listed.{CountLeft}
use Rattle.figure_points.proofs.count_points.Given as goal

abbrev pub invariant-loop-dy : goal.invariant-loop-dy
invariant-loop-dy l = CountLeft l.shape l.top l.height l.n l.dy
