-- `box_mirrored::are_alike` meets its contract: the tests made are those of the definition.
use native.Mathlib.Omega.{arith}
use borrow.Author.Tests.{eq-eqb, ne_eqb}
use Rattle.box_mirrored.specs.Sides.{alike}
use Rattle.box_mirrored.proofs.are_alike.Goals as goal

pub returns-then-a-b : goal.returns-then-a-b
unfolding alike
returns-then-a-b c =
    let a = c.args in
    rw (ne_eqb a.a.width a.b.width (λ e. omega arith))

pub returns-then-a-b-2 : goal.returns-then-a-b-2
unfolding alike
returns-then-a-b-2 c =
    let a = c.args in
    rw (eq-eqb a.a.width a.b.width (omega arith), ne_eqb a.a.height a.b.height (λ e. omega arith))

pub returns : goal.returns
unfolding alike
returns c =
    let a = c.args in
    rw (eq-eqb a.a.width a.b.width (omega arith), eq-eqb a.a.height a.b.height (omega arith))
