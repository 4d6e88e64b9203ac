-- `ellipse::contains` meets its contract: the test depends on the distances alone (`inside_by_distance`).
use mathlib.Core.Path.{sym, ◌∙◌}
use lib.IntN.{nat_abs}
use mir.Facts.{to_z-of_z}
use Rattle.ellipse.specs.Ellipse.{center2x, from_center2x, inside_about}
use Rattle.ellipse.specs.Relative.{below_threshold}
use Rattle.ellipse.proofs.Distances.{inside_by_distance}
use Rattle.ellipse.proofs.contains.Goals as goal

pub returns : goal.returns
unfolding inside_about
returns c =
    let at_distance = c.distance-x in
    let e = c.args.ellipse in
    let x = c.distance-x.ensures.0 ∙ (λ i. nat_abs
    (from_center2x (to_z-of_z c.requires.point_near.x.fits i) (center2x (to_z-of_z c.requires.bounded.at.x.fits i) e.size.width))) in
    let y = c.distance-y.ensures.0 ∙
    (λ i. nat_abs (from_center2x (to_z-of_z c.requires.point_near.y.fits i)
    (center2x (to_z-of_z c.requires.bounded.at.y.fits i) e.size.height))) in
    c.contains.ensures
    ∙ (λ i. below_threshold (c.new-test.ensures.0 i) (x i) (y i))
    ∙ sym (inside_by_distance e.size.width e.size.height _ _)
