-- The forms that the code computes: by distances from the middle. The laws of proofs/Distances.antt equate them with `Ellipse`.
-- Assumes nothing.
use Rattle.std.specs.Prelude.{Bool, cond, ℕ, ◌+◌, ◌-◌, ◌*◌, ◌≤◌, ltb, eqb}
use Rattle.geometry.specs.Bounds.{wide_side, wide_point}
use Rattle.ellipse.specs.declared.EllipseContains.{EllipseContains}
use Rattle.ellipse.specs.Ellipse.{threshold}

-- |2k − (n − 1)|, twice the distance of place k from the middle of n places: of the two differences one is 0
abbrev pub gap : ℕ → ℕ → ℕ
gap n k = (2 * k - (n - 1)) + (n - 1 - 2 * k)

-- twice the largest distance of a point from a centre, on one axis
abbrev pub wide_distance : ℕ
wide_distance = 2 * (wide_point + wide_point) + wide_side

-- the squares of a side and of a distance, and their product
abbrev pub wide_side_square : ℕ
wide_side_square = wide_side * wide_side

abbrev pub wide_distance_square : ℕ
wide_distance_square = wide_distance * wide_distance

abbrev pub wide_product : ℕ
wide_product = wide_side_square * wide_distance_square

-- the test of the ellipse of sides w, h in one form for equal and unequal sides: weights of X² and Y², and their bound
unfoldable pub contains_of : ℕ → ℕ → EllipseContains
contains_of w h =
    record {
      x_weight = cond (eqb w h) 1 (h * h);
      y_weight = cond (eqb w h) 1 (w * w);
      threshold = cond (eqb w h) (threshold w) (w * w * (h * h));
    }

-- what the functions ask of it
pub record SmallWeights (c : EllipseContains) : Type 0 where
  pub x_weight : c.x_weight ≤ wide_side_square
  pub y_weight : c.y_weight ≤ wide_side_square

-- inside at the distances x and y
unfoldable pub below_threshold : EllipseContains → ℕ → ℕ → Bool
below_threshold c x y = ltb (c.x_weight * (x * x) + c.y_weight * (y * y)) c.threshold
