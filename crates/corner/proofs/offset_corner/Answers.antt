-- `corner::offset_corner` meets its contract: both numbers are those of `offset_radius`.
use mathlib.Core.Path.{ap, ◌∙◌}
use lib.IntN.{ℤ}
use mir.Facts.{to_z-of_z}
use Rattle.geometry.proofs.Fields.{size_by_fields}
use Rattle.corner.specs.Corner.{offset_radius, offset_corner}
use Rattle.corner.proofs.offset_corner.Goals as goal

pub returns : goal.returns
unfolding offset_corner
returns c =
    let k_back = to_z-of_z c.ranges.k in
    size_by_fields
    (c.offset_radius.ensures ∙ ap (λ (k : ℤ). offset_radius k c.args.radius.width) k_back)
    (c.offset_radius-2.ensures ∙ ap (λ (k : ℤ). offset_radius k c.args.radius.height) k_back)
