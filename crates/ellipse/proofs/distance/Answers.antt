-- `ellipse::distance` meets its contract: by the point's own distance from the corner, on either side of it.
use mir.Syntax.{w32}
use mir.Val.{to_z, of_z}
use Rattle.signed.proofs.Laws.{int, magnitude_law}
use Rattle.ellipse.proofs.Distances.{distance_from_corner}
use native.Mathlib.Omega.{arith}
use Rattle.ellipse.proofs.distance.Goals as goal

pub sub-from_corner-requires : goal.sub-from_corner-requires
sub-from_corner-requires c = omega (arith, int)

pub overflow_mul-magnitude : goal.overflow_mul-magnitude
overflow_mul-magnitude c = omega (arith, int, magnitude_law (to_z w32 (of_z w32 c.sub-from_corner.result)))

pub overflow_add-magnitude : goal.overflow_add-magnitude
overflow_add-magnitude c = omega (arith, int, magnitude_law (to_z w32 (of_z w32 c.sub-from_corner.result)))

-- before the corner
pub returns-then-from_corner-lt0 : goal.returns-then-from_corner-lt0
returns-then-from_corner-lt0 c =
    let entry = c.args in
    let d = c.sub-from_corner.result in
    let far = distance_from_corner entry.point entry.corner c.sub-from_corner.result entry.side (omega (arith, int)) in
    (omega (arith, int, magnitude_law (to_z w32 (of_z w32 c.sub-from_corner.result))), omega (arith, int, magnitude_law (to_z w32 (of_z w32 c.sub-from_corner.result))))

pub overflow_mul-twice : goal.overflow_mul-twice
overflow_mul-twice c = omega (arith, int)

-- between the corner and the middle
pub returns-then-twice-last : goal.returns-then-twice-last
returns-then-twice-last c =
    let entry = c.args in
    let d = c.sub-from_corner.result in
    let far = distance_from_corner entry.point entry.corner c.sub-from_corner.result entry.side (omega (arith, int)) in
    (omega (arith, int), omega (arith, int))

pub returns-else-twice-last : goal.returns-else-twice-last
returns-else-twice-last c =
    let entry = c.args in
    let d = c.sub-from_corner.result in
    let far = distance_from_corner entry.point entry.corner c.sub-from_corner.result entry.side (omega (arith, int)) in
    (omega (arith, int), omega (arith, int))
