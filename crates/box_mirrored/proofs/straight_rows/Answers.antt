-- `box_mirrored::straight_rows` meets its contract: the test says that the row lies below the upper corners, and the difference how many
-- rows are left above the lower ones.
use mathlib.Core.Path.{ap, subst, ◌∙◌}
use Prim.Native.Nat.{ℕ, ◌≤◌, ◌<◌, max}
use native.Mathlib.Omega.{arith}
use Rattle.rounded_rectangle.specs.Relative.{radii}
use Rattle.box_mirrored.proofs.Sides.{straight_counted}
use Rattle.box_mirrored.proofs.straight_rows.Goals as goal

pub returns : goal.returns
returns c =
    let at_most2 = c.most-lower in
    let at_if1 = c.if-dy-most in
    let at_most = c.most in
    let b = c.args.b in
    let past = subst (λ (m : ℕ). m ≤ c.args.dy) c.most.ensures c.if-dy-most.false in
    let n_is = c.most-2.ensures in
    let some : 0 < c.most-2.result = omega (arith, c.most-2.ensures) in (
      some,
      straight_counted (radii b) b.size c.args.dy _ _ c.requires.dy_lt_height past c.most-lower.ensures
          (c.most-2.ensures ∙ ap (max 1) c.difference.ensures),
    )
