-- `corner::grow_corner` meets its contract: both numbers are those of `grown_radius`.
use Rattle.geometry.proofs.Fields.{size_by_fields}
use Rattle.corner.specs.Growth.{grown_corner}
use Rattle.corner.proofs.grow_corner.Goals as goal

pub returns : goal.returns
unfolding grown_corner
returns c = size_by_fields c.grow_radius.ensures c.grow_radius-2.ensures
