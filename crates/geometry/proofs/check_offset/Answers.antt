-- `geometry::check_offset` meets its contract: the check called is that of the definition.
use mathlib.Core.Path.{ap, ◌∙◌}
use mir.Facts.{to_z-of_z}
use Rattle.geometry.specs.Checks.{offset_check}
use Rattle.geometry.proofs.check_offset.Goals as goal

pub returns : goal.returns
unfolding offset_check
returns c = c.refuse_beyond.ensures ∙ ap offset_check (to_z-of_z c.ranges.k)
