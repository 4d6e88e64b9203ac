-- `corner_quadrant::EllipseQuadrant::first_inside` meets its contract: the test is that of the corner's ellipse, at
-- the row's
-- distance from its middle.
use mathlib.Core.Path.{◌∙◌}
use Prim.Native.Nat.{◌*◌}
use Rattle.scanline.specs.Places.{find_from}
use Rattle.ellipse_search.specs.Search.{column_inside}
use Rattle.corner_quadrant.specs.Quadrant.{inside_corner}
use Rattle.corner_quadrant.proofs.EllipseQuadrant.first_inside.Goals as goal

pub returns : goal.returns
unfolding inside_corner
returns c =
    let test = c.requires.ready.test in
    let far = c.gap-y.ensures.0 in
    c.find_inside.ensures
    ∙ (λ i. find_from (column_inside (test i) (2 * c.args.self.radius.width) (c.gap-y.ensures.0 i)) c.args.n 0)
