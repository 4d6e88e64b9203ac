-- The columns of a box's row, counted from its left edge, and for the last contained one from its right edge, so that one
-- search serves both.
-- Assumes nothing.
use Rattle.std.specs.Prelude.{◌≡◌, Bool, false, cond, ℕ, ◌-◌, ◌<◌, ltb, Some, None}
use Rattle.geometry.specs.declared.Size.{Size}
use Rattle.scanline.specs.Places.{find_from, Place}
use Rattle.corner_radii.specs.declared.CornerRadii.{CornerRadii}
use Rattle.rounded_rectangle.specs.Relative.{inside_corner, contains_at}

-- ---- columns that a corner leaves out
-- how many columns a quadrant covers on its row e
unfoldable pub covered : Size → ℕ → ℕ
covered radius e = cond (ltb e radius.height) radius.width 0

-- the place found, else n
abbrev pub place_else : ℕ → Place → ℕ
place_else n (Some k) = k
place_else n None = n

-- how many of n columns from a corner on come before the first inside one on the corner's row e, all n if none is inside
unfoldable pub left_out : Size → ℕ → ℕ → ℕ
left_out radius e n = place_else n (find_from (λ d. inside_corner radius d e) n 0)

-- a test fails at the first n places
abbrev pub NoneBefore : (ℕ → Bool) → ℕ → Type 0
NoneBefore test n = (k : ℕ) → k < n → test k ≡ false

-- ---- the contained columns of row dy
-- the test at a column counted from the left edge, and at one counted from the right edge
abbrev pub contained_from_left : CornerRadii → Size → ℕ → ℕ → Bool
contained_from_left c s dy dx = contains_at c s.width s.height dx dy

abbrev pub contained_from_right : CornerRadii → Size → ℕ → ℕ → Bool
contained_from_right c s dy k = contains_at c s.width s.height (s.width - 1 - k) dy

-- the first contained column from one place on and before another; and the last, with the places counted from the right
abbrev pub first_contained : CornerRadii → Size → ℕ → ℕ → ℕ → Place
first_contained c s dy from to = find_from (contained_from_left c s dy) (to - from) from

abbrev pub last_contained : CornerRadii → Size → ℕ → ℕ → ℕ → Place
last_contained c s dy from to = find_from (contained_from_right c s dy) (to - from) from
