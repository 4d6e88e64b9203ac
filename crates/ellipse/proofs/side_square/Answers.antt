-- `ellipse::side_square` meets its contract: the square of a bounded number is bounded by the bound's square.
use mathlib.Core.Path.{refl}
use Rattle.ellipse.proofs.Distances.{square_le}
use native.Mathlib.Omega.{arith}
use Rattle.ellipse.proofs.side_square.Goals as goal

pub overflow_mul-result : goal.overflow_mul-result
overflow_mul-result c = record { fits = omega (arith, square_le c.requires) }

pub returns : goal.returns
returns c = (refl, square_le c.requires)
