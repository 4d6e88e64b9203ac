-- `styled_symmetric::upper_inset` meets its contract: the search is the definition's, and a corner without width has nothing
-- inside.
use native.Mathlib.Omega.{arith}
use borrow.Author.Rules.{rules}
use mathlib.Core.Path.{◌≡◌, refl, sym, subst}
use Prim.Native.Nat.{ℕ, ◌≤◌}
use Rattle.rounded_rectangle.specs.Relative.{inset}
use Rattle.corner_quadrant.proofs.SideInsets.{inset_le, inset_no_width}
use Rattle.styled_symmetric.proofs.upper_inset.Goals as goal

pub returns-then-radius-eq0 : goal.returns-then-radius-eq0
returns-then-radius-eq0 c =
    let a = c.args in
    record {
      in_corner = λ _. inset_no_width a.corner.radius a.dy a.n c.if-radius-eq0.true;
      past_corner = λ _. refl;
      few = omega arith;
    }

pub returns : goal.returns
unfolding inset
returns c =
    let a = c.args in
    let is : c.unwrap_or.result ≡ inset a.corner.radius a.dy a.n = search rules in
    record {
      in_corner = λ _. is;
      past_corner = λ past. absurd (omega arith);
      few = subst (λ (k : ℕ). k ≤ a.n) (sym is) (inset_le a.corner.radius a.dy a.n);
    }
