-- The forms that the code computes: places counted from the box's corner. The laws of proofs/Rows.antt equate them with
-- `EllipsePoints`.
-- Assumes nothing.
use Rattle.std.specs.Prelude.{Bool, ℕ, ℤ, pos, ◌+ℤ◌, ◌-ℤ◌}
use Rattle.geometry_range.specs.declared.Range.{Range}
use Rattle.scanline.specs.Places.{find_from, is_at, Place}
use Rattle.ellipse.specs.Relative.{gap, contains_of}
use Rattle.ellipse_search.specs.Search.{column_inside}

-- row dy's first inside column
unfoldable pub first_inside : ℕ → ℕ → ℕ → Place
first_inside w h dy = find_from (column_inside (contains_of w h) w (gap h dy)) w 0

-- all rows or none: by the first
unfoldable pub first_row_inside : ℕ → ℕ → Bool
first_row_inside w h = is_at (first_inside w h 0)

-- the run from place k of w columns to its mirror image
abbrev pub mirrored_run : ℤ → ℕ → ℕ → Range
mirrored_run left w k = record { start = left +ℤ pos k; end = left +ℤ pos w -ℤ pos k }
