-- Document 01, 'Box rows and points' (`rounded_rectangle/mod.rs` `RoundedRectangleContains`, `rounded_rectangle/points.rs`
-- `Scanlines`), for a box whose radii are confined already.
-- Assumes nothing.
use Rattle.scanline.specs.Rows.{Row}
use Rattle.std.specs.Prelude.{Bool, true, false, cond, ◌&&◌, ℤ, Some, None}
use Rattle.std.specs.Int.Signed.{lt_z, le_z}
use Rattle.geometry_range.specs.declared.Range.{Range}
use Rattle.geometry_range.specs.Range.{contains as range_contains}
use Rattle.rectangle.specs.Rectangle.{rows, columns}
use Rattle.scanline.specs.Columns.{first_column, last_column, column_else, column_after_else}
use Rattle.rounded_rectangle.specs.declared.RoundedRectangle.{RoundedRectangle}
use Rattle.rounded_rectangle.specs.Quadrants.{left, width, top_left_quadrant, top_right_quadrant, bottom_right_quadrant, bottom_left_quadrant, inside_top_left, inside_top_right, inside_bottom_right, inside_bottom_left}

-- `contains`: a point off the box's rows or columns is out. On the box, the quadrants are asked in the order top-left, top-right,
-- bottom-left, bottom-right; the first whose rows and columns reach the point answers by its ellipse, and where none does it is in
unfoldable pub contains : RoundedRectangle → ℤ → ℤ → Bool
contains b x y =
    cond (range_contains (rows b.rectangle) y && range_contains (columns b.rectangle) x)
    (cond (lt_z y (rows (top_left_quadrant b)).end && lt_z x (columns (top_left_quadrant b)).end) (inside_top_left b x y)
    (cond (lt_z y (rows (top_right_quadrant b)).end && le_z (columns (top_right_quadrant b)).start x) (inside_top_right b x y)
    (cond (le_z (rows (bottom_left_quadrant b)).start y && lt_z x (columns (bottom_left_quadrant b)).end) (inside_bottom_left b x y)
    (cond (le_z (rows (bottom_right_quadrant b)).start y && le_z (columns (bottom_right_quadrant b)).start x) (inside_bottom_right b x y)
    true))))
    false

-- where a row's run starts. The top-left quadrant has the rows above its end, the bottom-left one those from its start on, the
-- first before the second: there it is the box's first column inside that quadrant's ellipse. With no such column, and on rows
-- that neither has, it is columns.start
unfoldable pub run_start : RoundedRectangle → ℤ → ℤ
run_start b y =
    cond (lt_z y (rows (top_left_quadrant b)).end) (column_else (left b) (first_column (λ x. inside_top_left b x y) (left b) (width b)))
    (cond (le_z (rows (bottom_left_quadrant b)).start y) (column_else (left b) (first_column (λ x. inside_bottom_left b x y) (left b) (width b)))
    (columns b.rectangle).start)

-- where it ends: the same with the quadrants on the right, one past the box's last inside column, or columns.end
unfoldable pub run_end : RoundedRectangle → ℤ → ℤ
run_end b y =
    let end = (columns b.rectangle).end in
    cond (lt_z y (rows (top_right_quadrant b)).end) (column_after_else end (last_column (λ x. inside_top_right b x y) (left b) (width b)))
    (cond (le_z (rows (bottom_right_quadrant b)).start y) (column_after_else end (last_column (λ x. inside_bottom_right b x y) (left b) (width b)))
    end)

-- the run of one of the box's rows. It is not the row's contained points, and its ends may be reversed
abbrev pub run : RoundedRectangle → ℤ → Range
run b y = record { start = run_start b y; end = run_end b y }

-- `Scanlines` gives every row; 'no row' where the box lacks it
unfoldable pub row : RoundedRectangle → ℤ → Row
row b y = cond (range_contains (rows b.rectangle) y) (Some (run b y)) None
