-- `ellipse::EllipseContains::on_row` meets its contract: the product is that of the definition, and so is what it leaves of the bound.
use Rattle.ellipse.specs.Row.{on_row}
use Rattle.ellipse.proofs.EllipseContains.on_row.Goals as goal

pub returns : goal.returns
unfolding on_row
returns c = (
  rw (c.left_after.ensures, c.times-product.ensures.0, c.distance_square.ensures.0),
  c.requires.small_weights.x_weight,
)
