-- The drawing of demand 3: figures with their styles, their rows and what those make of a canvas row, for the definitions of `book`.
-- Assumes nothing.
use Rattle.std.specs.Prelude.{◌≡◌, List, ℕ, ℤ, length}
use Rattle.geometry.specs.Limits.{max_canvas_side}
use Rattle.geometry.specs.Limits.{max_layers as limits_max_layers}
use Rattle.refusal.specs.Refusal.{or_else, Checked}
use Rattle.figure.specs.declared.Figure.{Figure}
use Rattle.figure.specs.Calls.{figure_check}
use Rattle.style.specs.declared.Style.{Style}
use Rattle.style.specs.Style.{style_check}
use Rattle.styled.specs.Styled.{styled_row}
use Rattle.book.specs.Book.{Drawing}
use Rattle.canvas.specs.Canvas.{overpaint}
pub use Rattle.canvas_row.specs.CanvasRow.{paint_by}
use Rattle.canvas.proofs.Overpaint.{overpaint_length}
use Rattle.drawing.specs.Rows.{stroke_rows}

-- a figure with its style ('The records')
pub record StyledFigure : Type 0 where
  pub figure : Figure
  pub style : Style

-- made of the two
abbrev pub styled_figure : Figure → Style → StyledFigure
styled_figure f style = record { figure = f; style = style }

-- the lowest of 1, 2, 3 and 5 that applies to a figure and its style ('The records')
unfoldable pub styled_check : Figure → Style → Checked
styled_check f style = or_else (figure_check f) (style_check style)

-- a canvas row overpainted by the styled row at y ('The book')
unfoldable pub overpaint_by : StyledFigure → ℤ → List ℕ → List ℕ
overpaint_by item y row = overpaint item.style (styled_row item.figure item.style y) row

-- it sets bytes in place
pub overpaint_by_length : (item : StyledFigure) (y : ℤ) (row : List ℕ) → length (overpaint_by item y row) ≡ length row
unfolding overpaint_by
overpaint_by_length item y row = overpaint_length item.style (styled_row item.figure item.style y) row

-- figures with their styles, their rows and their limits
abbrev pub drawing : Drawing
drawing =
    record {
      Item = StyledFigure;
      refuse = λ item. styled_check item.figure item.style;
      first = λ item. (stroke_rows item.figure item.style).first;
      rows = λ item. (stroke_rows item.figure item.style).count;
      over = overpaint_by;
      over_length = overpaint_by_length;
      max_layers = limits_max_layers;
      max_side = max_canvas_side;
    }
