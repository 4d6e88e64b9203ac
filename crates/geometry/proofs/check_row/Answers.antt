-- `geometry::check_row` meets its contract: the check called is that of the definition.
use mathlib.Core.Path.{ap, ◌∙◌}
use mir.Facts.{to_z-of_z}
use Rattle.geometry.specs.Checks.{asked_check}
use Rattle.geometry.proofs.check_row.Goals as goal

pub returns : goal.returns
unfolding asked_check
returns c = c.refuse_beyond.ensures ∙ ap asked_check (to_z-of_z c.ranges.y)
