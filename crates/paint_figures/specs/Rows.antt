-- Which rows of a figure the code paints: those that the canvas has.
-- Assumes nothing.
use Rattle.std.specs.Prelude.{ℕ, ◌-◌, min, pos, ◌+ℤ◌, ◌-ℤ◌}
use Rattle.signed.specs.Signed.{floor0}
use Rattle.drawing.specs.declared.StrokeRows.{StrokeRows}

-- how many of a figure's rows lie above the canvas
abbrev pub rows_above : StrokeRows → ℕ
rows_above rows = min (floor0 (pos 0 -ℤ rows.first)) rows.count

-- those of its rows that a canvas of height H has
abbrev pub visible_rows : StrokeRows → ℕ → StrokeRows
visible_rows rows H =
    record {
      first = rows.first +ℤ pos (rows_above rows);
      count = min (rows.count - rows_above rows) (floor0 (pos H -ℤ (rows.first +ℤ pos (rows_above rows))));
    }
