-- `corner_quadrant::EllipseQuadrant::contains` meets its contract: the distances are the gaps of the column
-- and the row in the whole ellipse.
use mathlib.Core.Path.{◌∙◌}
use Rattle.ellipse.specs.Relative.{below_threshold}
use Rattle.ellipse_search.specs.Search.{column_inside}
use Rattle.corner_quadrant.specs.Quadrant.{inside_corner}
use Rattle.corner_quadrant.proofs.Within.{in_quadrant_row, in_quadrant_column}
use native.Mathlib.Omega.{arith}
use Rattle.corner_quadrant.proofs.EllipseQuadrant.contains.Goals as goal

pub gap-requires : goal.gap-requires
gap-requires c =
    let column = in_quadrant_column _ _ _ c.requires.e_value in
    let wide = c.requires.ready.small.width in
    (omega arith, omega arith)

pub gap-requires-2 : goal.gap-requires-2
gap-requires-2 c =
    let row = in_quadrant_row _ _ _ c.requires.e_value in
    let tall = c.requires.ready.small.height in
    (omega arith, omega arith)

pub returns : goal.returns
unfolding inside_corner column_inside
returns c =
    c.contains.ensures
    ∙ (λ i. below_threshold (c.requires.ready.test i) (c.gap.ensures.0 i) (c.gap-2.ensures.0 i))
