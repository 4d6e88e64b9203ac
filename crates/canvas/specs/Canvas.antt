-- Document 01, 'The book' (to overpaint a canvas row by a styled row), after the pixel iterators of both `styled.rs`.
-- Assumes nothing.
use Rattle.scanline.specs.Rows.{StyledRow}
use Rattle.std.specs.Prelude.{List, ℕ, Some, None}
use Rattle.book.specs.Canvas.{canvas_row, put_row}
use Rattle.scanline.specs.declared.StyledRuns.{StyledRuns}
use Rattle.style.specs.declared.Style.{Style}
use Rattle.canvas_run.specs.Run.{run_over}

-- a row overpainted by three runs in the order of the pixel iterators: left stroke, fill, right stroke. Where runs overlap the
-- later paint shows. Those of a styled row meet, s..f, f..g, g..e: the fill run overlaps with neither stroke run, and the two
-- stroke runs overlap only where the ends of the fill run are reversed, under the same paint
unfoldable pub overpaint_runs : Style → StyledRuns → List ℕ → List ℕ
overpaint_runs style runs row =
    run_over runs.stroke_right style.stroke
    (run_over runs.fill style.fill (run_over runs.stroke_left style.stroke row))

-- a row overpainted by a styled row. Where the figure lacks the row it stays
abbrev pub overpaint : Style → StyledRow → List ℕ → List ℕ
overpaint style (Some runs) row = overpaint_runs style runs row
overpaint style None row = row

-- a canvas of W columns with its row y overpainted by three runs; every byte outside that row is kept
abbrev pub overpaint_at : ℕ → ℕ → Style → StyledRuns → List ℕ → List ℕ
overpaint_at W y style runs canvas = put_row W y (overpaint_runs style runs (canvas_row W y canvas)) canvas
