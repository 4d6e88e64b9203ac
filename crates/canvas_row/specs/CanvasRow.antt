-- Document 01, 'The book': a canvas with one of its rows overpainted.
-- Assumes nothing.
use Rattle.scanline.specs.Rows.{StyledRow}
use Rattle.std.specs.Prelude.{List, ℕ, ℤ}
use Rattle.style.specs.declared.Style.{Style}
use Rattle.book.specs.Sheet.{with_row}
use Rattle.canvas.specs.Canvas.{overpaint}

-- a canvas with its row y, if it has that row, overpainted by the styled row there of any figure, given by its rows
abbrev pub paint_by : (ℤ → StyledRow) → Style → ℕ → ℕ → ℤ → List ℕ → List ℕ
paint_by row_at style W H y canvas = with_row (λ y row. overpaint style (row_at y) row) W H y canvas
