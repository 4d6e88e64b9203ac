-- `ellipse::times` meets its contract: the product of two bounded numbers is bounded by the bounds' product.
use mathlib.Core.Path.{refl}
use native.Mathlib.Nat.{mul-le-mul}
use native.Mathlib.Omega.{arith}
use Rattle.ellipse.proofs.times.Goals as goal

pub overflow_mul-result : goal.overflow_mul-result
overflow_mul-result c = record { fits = omega (arith, mul-le-mul c.requires.0 c.requires.1) }

pub returns : goal.returns
returns c = (refl, mul-le-mul c.requires.0 c.requires.1)
