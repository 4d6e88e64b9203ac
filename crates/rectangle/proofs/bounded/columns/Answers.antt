-- `rectangle::bounded::columns` meets its contract: the callee's ends are the definition's.
use Rattle.geometry_range.proofs.Fields.{range_by_fields}
use Rattle.rectangle.proofs.bounded.columns.Goals as goal

pub columns-requires : goal.columns-requires
columns-requires c = record { point_near = c.requires.at; size_up_to = c.requires.size }

pub returns : goal.returns
returns c = range_by_fields c.columns.ensures.start_value c.columns.ensures.end_value
