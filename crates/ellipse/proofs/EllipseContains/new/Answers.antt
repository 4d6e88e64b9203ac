-- `ellipse::EllipseContains::new` meets its contract: the test on the sides says which case of `contains_of` holds.
use mathlib.Core.Path.{ap₂, ◌∙◌}
use Prim.Native.Nat.{◌*◌}
use borrow.Author.Tests.{eq-eqb, ne_eqb}
use Rattle.ellipse.specs.Relative.{contains_of}
use Rattle.ellipse.proofs.Fields.{contains_by_fields}
use borrow.Author.Rules.{rules}
use Rattle.ellipse.proofs.EllipseContains.new.Goals as goal

-- equal sides
pub returns-then-size : goal.returns-then-size
unfolding contains_of
returns-then-size c =
    let equal = eq-eqb _ _ c.if-size.true in (
      contains_by_fields (rw equal) (rw equal) (rw equal c.diameter_to_threshold-threshold.ensures),
      record { x_weight = search rules; y_weight = search rules },
    )

pub returns : goal.returns
unfolding contains_of
returns c =
    let at_side_square = c.side_square-a in
    let at_wide = c.wide in
    let unequal = ne_eqb _ _ c.if-size.false in
    let a = c.side_square-a.ensures.0 ∙ ap₂ ◌*◌ c.wide.ensures c.wide.ensures in
    let b = c.side_square-b.ensures.0 ∙ ap₂ ◌*◌ c.wide-2.ensures c.wide-2.ensures in (
      contains_by_fields (rw unequal b) (rw unequal a) (rw unequal (c.times-threshold.ensures.0 ∙ ap₂ ◌*◌ a b)),
      record { x_weight = c.side_square-b.ensures.1; y_weight = c.side_square-a.ensures.1 },
    )
