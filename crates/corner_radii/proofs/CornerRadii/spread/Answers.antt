-- `corner_radii::CornerRadii::spread` meets its contract: the test on k says which case of `spread` holds; by 0 both ways give the same.
use mathlib.Core.Path.{ap, ◌∙◌}
use mir.Facts.{to_z-of_z}
use Rattle.corner_radii.specs.CornerRadii.{offset}
use Rattle.corner_radii.proofs.Spread.{spread_outward, spread_inward}
use native.Mathlib.Omega.{arith}
use Rattle.signed.proofs.Laws.{int}
use Rattle.corner_radii.proofs.CornerRadii.spread.Goals as goal

pub offset-requires : goal.offset-requires
offset-requires c = let near = c.requires.near in record { radii_up_to = c.requires.radii_up_to; near = omega (arith, int) }

-- inward, and by 0
pub returns-then-k-le0 : goal.returns-then-k-le0
returns-then-k-le0 c =
    let inward = c.if-k-le0.true in
    c.offset.ensures
    ∙ ap (offset c.args.self) (to_z-of_z c.ranges.k)
    ∙ spread_inward c.args.self c.args.k (omega (arith, int))

pub grow-requires : goal.grow-requires
grow-requires c =
    let near = c.requires.near in record { radii_up_to = c.requires.radii_up_to; k_le_wide_offset = omega (arith, int, c.floor0.ensures) }

-- outward
pub returns : goal.returns
returns c =
    let growth = c.floor0 in
    let outward = c.if-k-le0.false in
    c.grow.ensures
    ∙ spread_outward c.args.self c.args.k c.floor0.result (omega (arith, int, c.floor0.ensures))
