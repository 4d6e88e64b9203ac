-- Rows painted one after another, as the code does it: `paint_figures` and `paint` equate it with `painted`.
-- Assumes nothing.
use Rattle.scanline.specs.Rows.{StyledRow}
use Rattle.std.specs.Prelude.{◌≡◌, Bool, cond, List, ℕ, zero, suc, ◌+◌, ◌*◌, ◌≤◌, ◌<◌, ℤ, pos, ◌+ℤ◌}
use Rattle.rectangle.specs.declared.Rectangle.{Rectangle}
use Rattle.corner.specs.Bounds.{wide_stroke_side}
use Rattle.figure.specs.Bounds.{wide_area_position}
use Rattle.style.specs.declared.Style.{Style}
use Rattle.drawing.specs.Drawing.{paint_by}

-- a row of a figure, the last included
abbrev pub wide_painted : ℕ
wide_painted = wide_area_position + wide_stroke_side

-- a styled row painted at row y, and if twice at another row after that
abbrev pub twice_by : StyledRow → Style → ℕ → ℕ → ℤ → ℤ → Bool → List ℕ → List ℕ
twice_by row style W H y other twice canvas =
    let once = paint_by (λ _. row) style W H y canvas in
    cond twice (paint_by (λ _. row) style W H other once) once

-- n rows from row y down, by a figure's rows
unfoldable pub rows_by : (ℤ → StyledRow) → Style → ℕ → ℕ → ℤ → ℕ → List ℕ → List ℕ
rows_by row_at style W H y zero canvas = canvas
rows_by row_at style W H y (suc n) canvas = rows_by row_at style W H (y +ℤ pos 1) n (paint_by row_at style W H y canvas)

-- n pairs of rows of an ellipse with this stroke area, the first with the last of `count` from y on and so inward: none, or the rows are
-- all of the area's
pub record Mirrored (area : Rectangle) (y : ℤ) (count n : ℕ) : Type 0 where
  pub half : 2 * n ≤ count
  pub from_top : 0 < n → y ≡ area.top_left.y
  pub all_rows : 0 < n → count ≡ area.size.height
