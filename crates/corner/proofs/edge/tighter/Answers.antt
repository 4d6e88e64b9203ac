-- `corner::edge::tighter` meets its contract: the tests say which arm of `Corner.tighter` holds. The cross products
-- fit 32 bits, as twice the widest radius times the widest side does.
use native.Mathlib.Nat.{mul-le-mul}
use Rattle.corner.proofs.Tightest.{tighter_no_radii, tighter_only_radii, tighter_next, tighter_first}
use borrow.Author.Rules.{rules}
use native.Mathlib.Omega.{arith}
use Rattle.corner.proofs.edge.tighter.Goals as goal

-- no radii along the next edge, or along the first alone
pub returns-then-next-eq0 : goal.returns-then-next-eq0
returns-then-next-eq0 c = record { value = tighter_no_radii _ _ c.if-next-eq0.true; bounded_edge_3 = search rules }

pub returns-then-first-eq0 : goal.returns-then-first-eq0
returns-then-first-eq0 c = record { value = tighter_only_radii _ _ (omega arith) c.if-first-eq0.true; bounded_edge_3 = search rules }

pub overflow_mul-next : goal.overflow_mul-next
overflow_mul-next c =
    record { fits = omega (arith, mul-le-mul c.requires.bounded_edge_2.length c.requires.bounded_edge.sum) }

pub overflow_mul-first : goal.overflow_mul-first
overflow_mul-first c =
    record { fits = omega (arith, mul-le-mul c.requires.bounded_edge.length c.requires.bounded_edge_2.sum) }

-- radii along both
pub returns-then-next-first : goal.returns-then-next-first
returns-then-next-first c = record { value = tighter_next _ _ (omega arith) (omega arith) c.if-next-first.true; bounded_edge_3 = search rules }

pub returns-else-next-first : goal.returns-else-next-first
returns-else-next-first c = record { value = tighter_first _ _ (omega arith) (omega arith) c.if-next-first.false; bounded_edge_3 = search rules }
