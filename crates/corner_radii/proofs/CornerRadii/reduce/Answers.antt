-- `corner_radii::CornerRadii::reduce` meets its contract: the test is the definition's own, and 1 over 1 changes no radius.
use mathlib.Core.Path.{refl, sym}
use borrow.Author.Tests.{lt-ltb, le-ltb}
use Rattle.corner_radii.specs.CornerRadii.{reduced_by, reduced}
use Rattle.corner_radii.proofs.Fields.{confined_radii_by_fields}
use Rattle.corner_radii.proofs.Scaled.{scaled_by_one}
use Rattle.corner_radii.proofs.CornerRadii.reduce.Goals as goal

pub returns-then-edge : goal.returns-then-edge
unfolding reduced reduced_by
returns-then-edge c = rw (lt-ltb _ _ c.if-edge.true) (confined_radii_by_fields c.scale.ensures refl refl)

pub returns-else-edge : goal.returns-else-edge
unfolding reduced reduced_by
returns-else-edge c = rw (le-ltb _ _ c.if-edge.false) (confined_radii_by_fields (sym (scaled_by_one _)) refl refl)
