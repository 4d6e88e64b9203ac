-- `rectangle::bounded::with_center` meets its contract: the callee's coordinates are the definition's.
use mathlib.Core.Path.{refl}
use Rattle.rectangle.specs.Rectangle.{with_center}
use Rattle.geometry.proofs.Fields.{point_by_fields}
use Rattle.rectangle.proofs.Fields.{rectangle_by_fields}
use Rattle.rectangle.proofs.bounded.with_center.Goals as goal

pub top_left_about-requires : goal.top_left_about-requires
top_left_about-requires c = c.requires

pub returns : goal.returns
unfolding with_center
returns c = rectangle_by_fields (point_by_fields c.top_left_about.ensures.x_value c.top_left_about.ensures.y_value) refl
