-- `rectangle::bounded::rows` meets its contract: the callee's ends are the definition's.
use Rattle.geometry_range.proofs.Fields.{range_by_fields}
use Rattle.rectangle.proofs.bounded.rows.Goals as goal

pub rows-requires : goal.rows-requires
rows-requires c = record { point_near = c.requires.at; size_up_to = c.requires.size }

pub returns : goal.returns
returns c = range_by_fields c.rows.ensures.start_value c.rows.ensures.end_value
