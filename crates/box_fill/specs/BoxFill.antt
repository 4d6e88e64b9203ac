-- Document 01, 'Styled rows' (`rounded_rectangle/styled.rs` `StyledScanlines`): the fill of a box's row, for a fill area
-- whose radii are confined already.
-- Assumes nothing.
use Rattle.std.specs.Prelude.{cond, ℤ}
use Rattle.geometry_range.specs.declared.Range.{Range}
use Rattle.geometry_range.specs.Range.{contains as range_contains}
use Rattle.rectangle.specs.Rectangle.{rows}
use Rattle.scanline.specs.Columns.{first_column, last_column, column_else, column_after_else}
use Rattle.scanline.specs.Points.{run_length}
use Rattle.rounded_rectangle.specs.declared.RoundedRectangle.{RoundedRectangle}
use Rattle.rounded_rectangle.specs.RoundedRectangle.{contains}

-- the fill on row y where the stroke area's run is s..e: if y is among the fill area's rows, from the first column of s..e
-- that the fill area contains, else s, to the last one plus 1, else e; off those rows e..e. A reversed run has no columns
unfoldable pub fill_run : RoundedRectangle → ℤ → Range → Range
fill_run b y run =
    cond (range_contains (rows b.rectangle) y)
    (record {
      start = column_else run.start (first_column (λ x. contains b x y) run.start (run_length run));
      end = column_after_else run.end (last_column (λ x. contains b x y) run.start (run_length run));
    })
    (record { start = run.end; end = run.end })
