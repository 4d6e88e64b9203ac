-- A corner of a box as the code computes it: its column d and row e are counted from that corner of the box inward, so one function
-- serves all four. `rounded_rectangle` equates it with document 01's quadrants.
-- Assumes nothing.
use Rattle.std.specs.Prelude.{◌≡◌, Bool, cond, ◌&&◌, ℕ, ◌-◌, ◌*◌, ltb}
use Rattle.geometry.specs.declared.Size.{Size}
use Rattle.geometry.specs.Bounds.{SizeUpTo}
use Rattle.scanline.specs.Places.{find_from, place_else0}
use Rattle.ellipse.specs.Relative.{gap, contains_of, SmallWeights}
use Rattle.ellipse_search.specs.Search.{column_inside}
use Rattle.corner.specs.Bounds.{wide_radius}
use Rattle.corner_quadrant.specs.declared.EllipseQuadrant.{EllipseQuadrant}

-- a quadrant made ready: the test is that of the whole ellipse
pub record Ready (q : EllipseQuadrant) : Type 0 where
  pub small : SizeUpTo wide_radius q.radius
  pub test : q.test ≡ contains_of (2 * q.radius.width) (2 * q.radius.height)
  pub weights : SmallWeights q.test

-- the ellipse's test at column d and row e of a corner
unfoldable pub inside_corner : Size → ℕ → ℕ → Bool
inside_corner radius d e =
    column_inside (contains_of (2 * radius.width) (2 * radius.height)) (2 * radius.width) (gap (2 * radius.height) e) d

-- column d and row e are within the quadrant
unfoldable pub in_quadrant : Size → ℕ → ℕ → Bool
in_quadrant radius d e = ltb e radius.height && ltb d radius.width

-- how many of n columns from a corner on come before the first inside one on the corner's row e, 0 if none is inside
unfoldable pub inset : Size → ℕ → ℕ → ℕ
inset radius e n = place_else0 (find_from (λ d. inside_corner radius d e) n 0)

-- the same for a side of the box with an upper and a lower corner, on the box's row dy of h
unfoldable pub side_inset : Size → Size → ℕ → ℕ → ℕ → ℕ
side_inset upper lower h n dy =
    cond (ltb dy upper.height) (inset upper dy n) (cond (ltb (h - 1 - dy) lower.height) (inset lower (h - 1 - dy) n) 0)
