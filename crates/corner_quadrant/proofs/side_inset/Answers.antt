-- `corner_quadrant::side_inset` meets its contract: the tests on the row say which corner of `side_inset` decides.
use mathlib.Core.Path.{◌∙◌}
use Rattle.corner_quadrant.proofs.SideInsets.{side_by_upper, side_by_lower, side_straight}
use native.Mathlib.Omega.{arith}
use Rattle.corner_quadrant.proofs.side_inset.Goals as goal

pub returns-then-dy-above : goal.returns-then-dy-above
returns-then-dy-above c = (c.inset.ensures.0 ∙ side_by_upper _ _ _ _ _ c.if-dy-above.true, c.inset.ensures.1)

pub returns-then-h-dy : goal.returns-then-h-dy
returns-then-h-dy c = (
  c.inset-then-h-dy.ensures.0 ∙ side_by_lower _ _ _ _ _ c.if-dy-above.false c.if-h-dy.true,
  c.inset-then-h-dy.ensures.1,
)

pub returns : goal.returns
returns c = (side_straight _ _ _ _ _ c.if-dy-above.false c.if-h-dy.false, omega arith)
