-- What a passed check says: figure, style and canvas are within limits, and the canvas has its length.
-- Assumes nothing.
use mathlib.Core.Path.{◌≡◌}
use mathlib.Core.List.{List}
use Prim.Native.Nat.{ℕ, ◌*◌, ◌≤◌}
use lib.ListN.{length}
use Rattle.geometry.specs.Limits.{max_stroke_width}
use Rattle.refusal.specs.Refusal.{or_else, passed}
use Rattle.refusal.proofs.Checks.{passed_first, passed_next}
use Rattle.figure.specs.declared.Figure.{Figure}
use Rattle.figure.specs.Bounds.{OwnFigure}
use Rattle.figure.specs.Calls.{figure_check}
use Rattle.figure.proofs.Within.{figure_passed}
use Rattle.style.specs.declared.Style.{Style}
use Rattle.style.specs.Style.{style_check}
use Rattle.style.proofs.StrokeWidths.{style_passed}
use Rattle.canvas_size.specs.CanvasSize.{canvas_size_check, canvas_length_check, CanvasSides}
use Rattle.canvas_size.proofs.Sides.{canvas_size_passed, canvas_length_passed}
use Rattle.drawing.specs.Drawing.{styled_check}
use Rattle.paint.specs.Paint.{paint_check}

pub record PaintPassed (f : Figure) (style : Style) (W H : ℕ) (canvas : List ℕ) : Type 0 where
  pub figure : OwnFigure f
  pub stroke : style.stroke_width ≤ max_stroke_width
  pub sides : CanvasSides W H
  pub size : length canvas ≡ W * H

pub paint_passed : (f : Figure) (style : Style) (W H : ℕ) (canvas : List ℕ) → paint_check f style W H canvas ≡ passed
    → PaintPassed f style W H canvas
unfolding paint_check styled_check
paint_passed f style W H canvas e =
    let given = passed_first (or_else (or_else (figure_check f) (style_check style)) (canvas_size_check W H))
    (canvas_length_check W H (length canvas)) e in
    let styled = passed_first (or_else (figure_check f) (style_check style)) (canvas_size_check W H) given in
    record {
      figure = figure_passed f (passed_first (figure_check f) (style_check style) styled);
      stroke = style_passed style (passed_next (figure_check f) (style_check style) styled);
      sides = canvas_size_passed W H (passed_next (or_else (figure_check f) (style_check style)) (canvas_size_check W H) given);
      size =
          canvas_length_passed W H (length canvas)
          (passed_next (or_else (or_else (figure_check f) (style_check style)) (canvas_size_check W H))
          (canvas_length_check W H (length canvas)) e);
    }
