-- `corner_radii::CornerRadii::offset` meets its contract: the four corners are those of `offset_corner`.
use mathlib.Core.Path.{ap, ◌∙◌}
use lib.IntN.{ℤ}
use mir.Facts.{to_z-of_z}
use Rattle.corner.specs.Corner.{offset_corner}
use Rattle.corner_radii.specs.CornerRadii.{offset}
use Rattle.corner_radii.proofs.Fields.{corner_radii_by_fields}
use Rattle.corner_radii.proofs.CornerRadii.offset.Goals as goal

pub offset_corner-requires : goal.offset_corner-requires
offset_corner-requires c = record { size_up_to = c.requires.radii_up_to.top_left; near = rw (to_z-of_z c.ranges.k) c.requires.near }

pub offset_corner-requires-2 : goal.offset_corner-requires-2
offset_corner-requires-2 c = record { size_up_to = c.requires.radii_up_to.top_right; near = rw (to_z-of_z c.ranges.k) c.requires.near }

pub offset_corner-requires-3 : goal.offset_corner-requires-3
offset_corner-requires-3 c = record { size_up_to = c.requires.radii_up_to.bottom_right; near = rw (to_z-of_z c.ranges.k) c.requires.near }

pub offset_corner-requires-4 : goal.offset_corner-requires-4
offset_corner-requires-4 c =
    let at_pre = c.requires in
    let at_fits = c.ranges in record { size_up_to = c.requires.radii_up_to.bottom_left; near = rw (to_z-of_z at_fits.k) c.requires.near }

pub returns : goal.returns
unfolding offset
returns c =
    let k_back = to_z-of_z c.ranges.k in
    let radii = c.args.self in
    corner_radii_by_fields
    (c.offset_corner.ensures ∙ ap (λ (k : ℤ). offset_corner k radii.top_left) k_back)
    (c.offset_corner-2.ensures ∙ ap (λ (k : ℤ). offset_corner k radii.top_right) k_back)
    (c.offset_corner-3.ensures ∙ ap (λ (k : ℤ). offset_corner k radii.bottom_right) k_back)
    (c.offset_corner-4.ensures ∙ ap (λ (k : ℤ). offset_corner k radii.bottom_left) k_back)
