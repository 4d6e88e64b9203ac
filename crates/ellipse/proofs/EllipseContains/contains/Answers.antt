-- `ellipse::EllipseContains::contains` meets its contract: the products are those of the definition.
use Rattle.ellipse.specs.Relative.{below_threshold}
use Rattle.ellipse.proofs.EllipseContains.contains.Goals as goal

pub returns : goal.returns
unfolding below_threshold
returns c =
    let at_times = c.times in
    let at_distance_square = c.distance_square in
    rw (
      c.times-2.ensures.0,
      c.distance_square-2.ensures.0,
      c.times.ensures.0,
      c.distance_square.ensures.0,
    )
