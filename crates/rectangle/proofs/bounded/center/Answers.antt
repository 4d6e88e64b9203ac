-- `rectangle::bounded::center` meets its contract: the callee's coordinates are the definition's.
use Rattle.rectangle.specs.Rectangle.{center}
use Rattle.geometry.proofs.Fields.{point_by_fields}
use Rattle.rectangle.proofs.bounded.center.Goals as goal

pub center-requires : goal.center-requires
center-requires c = record { point_near = c.requires.at; size_up_to = c.requires.size }

pub returns : goal.returns
unfolding center
returns c = point_by_fields c.center.ensures.x_value c.center.ensures.y_value
