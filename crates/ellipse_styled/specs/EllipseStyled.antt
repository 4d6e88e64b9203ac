-- Document 01, 'Styled rows' (`ellipse/styled.rs`, `common/styled_scanline.rs`): a styled row as three runs, and the ellipse's.
-- Assumes nothing.
use Rattle.scanline.specs.Rows.{Row, StyledRow}
use Rattle.std.specs.Prelude.{ℤ, ◌-ℤ◌, Some, None}
use Rattle.geometry.specs.declared.Size.{Size}
use Rattle.geometry_range.specs.declared.Range.{Range}
use Rattle.rectangle.specs.declared.Rectangle.{Rectangle}
use Rattle.scanline.specs.declared.StyledRuns.{StyledRuns}
use Rattle.scanline.specs.Columns.{Column, found, none, first_column}
use Rattle.scanline.specs.Points.{run_length}
use Rattle.ellipse.specs.Ellipse.{inside_about}
use Rattle.ellipse_rows.specs.EllipsePoints.{row}

-- the stroke area's run s..e around a fill: left is s..fill start, right is fill end..e
abbrev pub around_fill : Range → Range → StyledRuns
around_fill run fill =
    record {
      stroke_left = record { start = run.start; end = fill.start };
      fill = fill;
      stroke_right = record { start = fill.end; end = run.end };
    }

-- a styled row by the stroke area's row and the fill of its run; 'no row' where the stroke area lacks it
abbrev pub styled_by : Row → (Range → Range) → StyledRow
styled_by (Some run) fill = Some (around_fill run (fill run))
styled_by None fill = None

-- the fill from a column c of s..e to e − (c − s); e..e where there is none
abbrev pub fill_from : Range → Column → Range
fill_from run (found c) = record { start = c; end = run.end -ℤ (c -ℤ run.start) }
fill_from run none = record { start = run.end; end = run.end }

-- c is the first column of s..e inside the ellipse of the fill sides about the stroke area's C
abbrev pub ellipse_fill : Size → Rectangle → ℤ → Range → Range
ellipse_fill sides area y run = fill_from run (first_column (λ x. inside_about sides area x y) run.start (run_length run))

-- the styled row at y of an ellipse with this stroke area and these fill sides
unfoldable pub ellipse_styled_row : Rectangle → Size → ℤ → StyledRow
ellipse_styled_row area sides y = styled_by (row area y) (ellipse_fill sides area y)
