-- Rows of a box that are alike on both sides, and rows with straight sides.
-- Assumes nothing.
use Rattle.scanline.specs.Places.{Place}
use Rattle.std.specs.Prelude.{◌≡◌, Bool, true, ◌&&◌, ℕ, ◌+◌, ◌-◌, ◌*◌, ◌≤◌, ◌<◌, max, eqb, Some, None}
use Rattle.geometry.specs.declared.Size.{Size}
use Rattle.corner_radii.specs.declared.CornerRadii.{CornerRadii}
use Rattle.box_columns.specs.Columns.{NoneBefore, contained_from_left, contained_from_right}

-- two corners are alike: their widths and their heights are equal
unfoldable pub alike : Size → Size → Bool
alike a b = eqb a.width b.width && eqb a.height b.height

-- the contained columns of row dy are those between the first k and the last k
pub record Between (c : CornerRadii) (s : Size) (dy k : ℕ) : Type 0 where
  pub half : 2 * k ≤ s.width
  pub none_left : NoneBefore (contained_from_left c s dy) k
  pub none_right : NoneBefore (contained_from_right c s dy) k
  pub inside : (dx : ℕ) → k ≤ dx → dx + k < s.width → contained_from_left c s dy dx ≡ true

-- so many columns of row dy are left out on either side; or nothing is said
abbrev pub MirroredSides : CornerRadii → Size → ℕ → Place → Type 0
MirroredSides c s dy (Some k) = Between c s dy k
MirroredSides c s dy None = Unit {0}

-- row dy of a box has straight sides: it lies below the upper corners and above the lower ones
pub record Straight (c : CornerRadii) (s : Size) (dy : ℕ) : Type 0 where
  pub in_box : dy < s.height
  pub past_upper : max c.top_left.height c.top_right.height ≤ dy
  pub before_lower : max c.bottom_left.height c.bottom_right.height ≤ s.height - 1 - dy

-- of the n rows from dy on those after the first, if there are any, have straight sides, and the first has with them
abbrev pub StraightFor : CornerRadii → Size → ℕ → ℕ → Type 0
StraightFor c s dy n = (k : ℕ) → 0 < k → k < n → Straight c s dy × Straight c s (dy + k)
