-- `figure_points::put_points` meets its contract. The invariant: the rows from dy on are left to write, from index `at` on
-- (`RowsLeft`).
use Rattle.scanline.proofs.Listing.{RowsLeft}
use Rattle.figure.specs.Figure.{row_of_shape}
use Rattle.figure_points.proofs.put_points.Given as goal

abbrev pub invariant-loop-dy : goal.invariant-loop-dy
invariant-loop-dy l = RowsLeft (row_of_shape l.shape) l.top l.height l.initial.list l.list l.at l.dy
