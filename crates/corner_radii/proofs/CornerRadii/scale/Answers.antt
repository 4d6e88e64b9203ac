-- `corner_radii::CornerRadii::scale` meets its contract: the four corners are those of `scaled_corner`.
use Rattle.corner_radii.specs.CornerRadii.{scaled}
use Rattle.corner_radii.proofs.Fields.{corner_radii_by_fields}
use Rattle.corner_radii.proofs.CornerRadii.scale.Goals as goal

pub returns : goal.returns
unfolding scaled
returns c =
    corner_radii_by_fields
    c.scale_corner.ensures
    c.scale_corner-2.ensures
    c.scale_corner-3.ensures
    c.scale_corner-4.ensures
