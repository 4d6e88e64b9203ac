-- `ellipse::RowContains::contains` meets its contract: the product is that of the definition.
use Rattle.ellipse.specs.Row.{inside_on_row}
use Rattle.ellipse.proofs.RowContains.contains.Goals as goal

pub returns : goal.returns
unfolding inside_on_row
returns c = rw (c.times.ensures.0, c.distance_square.ensures.0)
