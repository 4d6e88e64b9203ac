-- What the promises of a search along a row go by.
-- Assumes nothing.
use Rattle.scanline.specs.Places.{Place}
use Rattle.std.specs.Prelude.{◌≡◌, Bool, ℕ, ◌+◌, ◌-◌, ◌/◌, ◌<◌, min, Some, None}
use Rattle.ellipse.specs.declared.EllipseContains.{EllipseContains}
use Rattle.ellipse.specs.Relative.{gap, below_threshold}

-- inside at column k of `width`, on a row at the distance y
unfoldable pub column_inside : EllipseContains → ℕ → ℕ → ℕ → Bool
column_inside c width y k = below_threshold c (gap width k) y

-- of `count` columns from `from` on, the one nearest to the middle: the middle, or the last of them
abbrev pub NearestOf : ℕ → ℕ → ℕ → Place → Type 0
NearestOf width from count (Some k) = (0 < count) × (k ≡ min ((width - 1) / 2) (from + count - 1))
NearestOf width from count None = count ≡ 0
