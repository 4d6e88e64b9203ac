-- Document 01, 'Ellipse' (`ellipse/points.rs`): the rows.
-- Assumes nothing.
use Rattle.scanline.specs.Rows.{Row}
use Rattle.std.specs.Prelude.{Bool, true, false, cond, ◌&&◌, ℕ, ℤ, ◌-ℤ◌, Some, None}
use Rattle.geometry_range.specs.declared.Range.{Range}
use Rattle.geometry_range.specs.Range.{contains as range_contains}
use Rattle.rectangle.specs.declared.Rectangle.{Rectangle}
use Rattle.rectangle.specs.Rectangle.{rows, columns}
use Rattle.scanline.specs.Columns.{Column, found, none, first_column}
use Rattle.ellipse.specs.Ellipse.{inside_about}

-- a row's run: from its first inside column c to columns.end − (c − columns.start)
abbrev pub run_from : Range → Column → Row
run_from columns (found c) = Some (record { start = c; end = columns.end -ℤ (c -ℤ columns.start) })
run_from columns none = None

-- what `Scanlines` gives at row y: the first inside column is looked for among all columns of the rectangle
unfoldable pub scanline : Rectangle → ℤ → Row
scanline e y = run_from (columns e) (first_column (λ x. inside_about e.size e x y) (columns e).start e.size.width)

abbrev pub is_run : Row → Bool
is_run (Some r) = true
is_run None = false

-- `Scanlines` ends at the first row with no inside column, so an ellipse has all its rows, or none if the first lacks one
unfoldable pub has_rows : Rectangle → Bool
has_rows e = is_run (scanline e (rows e).start)

-- the row at y, 'no row' where the ellipse lacks it
unfoldable pub row : Rectangle → ℤ → Row
row e y = cond (range_contains (rows e) y && has_rows e) (scanline e y) None

-- how many rows there are
unfoldable pub row_count : Rectangle → ℕ
row_count e = cond (has_rows e) e.size.height 0
