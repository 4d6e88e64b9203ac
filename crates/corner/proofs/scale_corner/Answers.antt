-- `corner::scale_corner` meets its contract: the products fit 32 bits, and the quotients are those of
-- `scaled_corner`.
use mathlib.Core.Path.{refl}
use native.Mathlib.Nat.{mul-le-mul}
use Rattle.corner.specs.Corner.{scaled_corner}
use native.Mathlib.Omega.{arith}
use Rattle.corner.proofs.scale_corner.Goals as goal

pub overflow_mul-result : goal.overflow_mul-result
overflow_mul-result c =
    record { fits = omega (arith, mul-le-mul c.requires.size_up_to.width c.requires.bounded_edge.length) }

pub overflow_mul-result-2 : goal.overflow_mul-result-2
overflow_mul-result-2 c =
    record { fits = omega (arith, mul-le-mul c.requires.size_up_to.height c.requires.bounded_edge.length) }

pub returns : goal.returns
unfolding scaled_corner
returns c = refl
