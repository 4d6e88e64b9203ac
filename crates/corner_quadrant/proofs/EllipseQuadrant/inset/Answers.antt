-- `corner_quadrant::EllipseQuadrant::inset` meets its contract: the search is the definition's, and a corner
-- without width has nothing inside.
use borrow.Author.Rules.{rules}
use mathlib.Core.Path.{◌≡◌, sym, subst}
use Prim.Native.Nat.{ℕ, ◌≤◌}
use Rattle.corner_quadrant.specs.Quadrant.{inset}
use Rattle.corner_quadrant.proofs.SideInsets.{inset_le, inset_no_width}
use native.Mathlib.Omega.{arith}
use Rattle.corner_quadrant.proofs.EllipseQuadrant.inset.Goals as goal

pub returns-then-radius-eq0 : goal.returns-then-radius-eq0
returns-then-radius-eq0 c = (inset_no_width _ _ _ c.if-radius-eq0.true, omega arith)

pub returns : goal.returns
unfolding inset
returns c =
    let a = c.args in
    let found : c.unwrap_or.result ≡ inset a.self.radius a.e a.n = search rules in
    (found, subst (λ (m : ℕ). m ≤ a.n) (sym found) (inset_le a.self.radius a.e a.n))
