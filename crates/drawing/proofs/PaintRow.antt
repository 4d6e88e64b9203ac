-- What a figure's row makes of a canvas is what its styled row does; the laws of `canvas_row` on that are passed on.
-- Assumes nothing.
use Rattle.scanline.specs.Rows.{StyledRow}
use mathlib.Core.Path.{◌≡◌, refl, ap, ◌∙◌}
use mathlib.Core.Bool.{cond}
use mathlib.Core.List.{List}
use Prim.Native.Nat.{ℕ}
use lib.Dec.{ltb}
use lib.IntN.{ℤ, pos, negsuc}
use Rattle.figure.specs.declared.Figure.{Figure}
use Rattle.style.specs.declared.Style.{Style}
use Rattle.book.specs.Canvas.{canvas_row, put_row}
use Rattle.book.specs.Sheet.{with_row, paint_row}
use Rattle.styled.specs.Styled.{styled_row}
use Rattle.canvas.specs.Canvas.{overpaint}
pub use Rattle.canvas_row.proofs.PaintBy.{paint_by_row, paint_by_lacking, paint_by_above, paint_by_below, paint_by_runs}
use Rattle.drawing.specs.Drawing.{styled_figure, overpaint_by, paint_by, drawing}

module _ (row_at : ℤ → StyledRow) (style : Style) (W H : ℕ) (canvas : List ℕ) where
  -- a figure's rows are those of its definition
  pub paint_by_figure : (f : Figure) → ((y : ℤ) → row_at y ≡ styled_row f style y) → (y : ℤ)
      → paint_by row_at style W H y canvas ≡ paint_row drawing W H (styled_figure f style) y canvas
  unfolding with_row overpaint_by
  paint_by_figure f is (pos y) =
      ap (λ (row : StyledRow). cond (ltb y H) (put_row W y (overpaint style row (canvas_row W y canvas)) canvas) canvas) (is (pos y))
  paint_by_figure f is (negsuc y) = refl

-- a figure's row that somebody has found
pub paint_by_found : (f : Figure) (style : Style) (W H : ℕ) (canvas : List ℕ) (row : StyledRow) (y : ℤ) → row ≡ styled_row f style y
    → paint_by (λ _. row) style W H y canvas ≡ paint_row drawing W H (styled_figure f style) y canvas
paint_by_found f style W H canvas row y is =
    paint_by_row (styled_row f style) style W H canvas row y is
    ∙ paint_by_figure (styled_row f style) style W H canvas f (λ _. refl) y
