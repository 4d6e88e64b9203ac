-- `corner_radii::CornerRadii::grow` meets its contract: the four corners are those of `grown_corner`.
use Rattle.corner_radii.specs.CornerRadii.{grown}
use Rattle.corner_radii.proofs.Fields.{corner_radii_by_fields}
use Rattle.corner_radii.proofs.CornerRadii.grow.Goals as goal

pub returns : goal.returns
unfolding grown
returns c =
    corner_radii_by_fields
    c.grow_corner.ensures
    c.grow_corner-2.ensures
    c.grow_corner-3.ensures
    c.grow_corner-4.ensures
