-- The oval of document 01 computed, with its 16 bytes; the same off the canvas; and the lowest number that applies.
-- Assumes nothing.
use Rattle.std.specs.Prelude.{Some, None}
use mathlib.Core.Path.{◌≡◌, refl}
use mathlib.Core.List.{[], ◌∷◌}
use Prim.Native.Nat.{ℕ}
use lib.IntN.{ℤ, pos, negsuc}
use lib.ListN.{replicate}
use Rattle.refusal.specs.Refusal.{refused, answered}
use Rattle.geometry.specs.Checks.{size_check, position_check}
use Rattle.rectangle.specs.Rectangle.{center, with_center, offset_side, offset}
use Rattle.scanline.specs.Columns.{first_column}
use Rattle.ellipse.specs.Ellipse.{center2x, from_center2x, threshold, inside, inside_about}
use Rattle.ellipse_rows.specs.EllipsePoints.{row, scanline, has_rows}
use Rattle.ellipse_styled.specs.EllipseStyled.{ellipse_styled_row}
use Rattle.figure.specs.declared.Figure.{Figure}
use Rattle.figure.specs.declared.Figure.TheVariants.{Ellipse}
use Rattle.style.specs.declared.Style.{Style}
use Rattle.style.specs.Style.{default_alignment, styled_by_default, style_check, outside_stroke_width, inside_stroke_width}
use Rattle.styled_row.specs.StyledRow.{styled_row_of_shapes}
use Rattle.canvas_size.specs.CanvasSize.{canvas_size_check, canvas_length_check}
use Rattle.canvas_run.specs.Run.{run_over_from}
use Rattle.canvas.specs.Canvas.{overpaint_runs}
use Rattle.book.specs.Whole.{overpaint_rows}
use Rattle.drawing.specs.Drawing.{styled_check, overpaint_by}
use Rattle.paint.specs.Paint.{paint_check, painted, paint_call, canvas_after}

-- an oval at (x, y), and the fill of document 01's
abbrev oval : ℤ → ℤ → ℕ → ℕ → Figure
oval x y w h = Ellipse (record { top_left = record { x = x; y = y }; size = record { width = w; height = h } })

abbrev filled : ℕ → Style
filled width = styled_by_default None (Some 9) width

oval_bytes : canvas_after (oval (pos 0) (pos 0) 4 4) (filled 0) 4 4 (replicate 16 0)
    ≡ 0 ∷ 9 ∷ 9 ∷ 0 ∷ 9 ∷ 9 ∷ 9 ∷ 9 ∷ 9 ∷ 9 ∷ 9 ∷ 9 ∷ 0 ∷ 9 ∷ 9 ∷ 0 ∷ []
unfolding paint_check painted styled_check size_check position_check style_check canvas_size_check canvas_length_check overpaint_rows
    overpaint_by overpaint_runs run_over_from styled_row_of_shapes ellipse_styled_row row scanline has_rows first_column inside_about inside threshold
    center2x from_center2x offset offset_side with_center center outside_stroke_width inside_stroke_width default_alignment
oval_bytes = refl

-- its lower right quarter: rows above the canvas and columns left of it are skipped
oval_cut : canvas_after (oval (negsuc 1) (negsuc 1) 4 4) (filled 0) 2 2 (replicate 4 0) ≡ 9 ∷ 9 ∷ 9 ∷ 0 ∷ []
unfolding paint_check painted styled_check size_check position_check style_check canvas_size_check canvas_length_check overpaint_rows
    overpaint_by overpaint_runs run_over_from styled_row_of_shapes ellipse_styled_row row scanline has_rows first_column inside_about inside threshold
    center2x from_center2x offset offset_side with_center center outside_stroke_width inside_stroke_width default_alignment
oval_cut = refl

-- 1 before 5, 5 before 6, 6 before 8, and 8
lowest_numbers : (paint_call (oval (pos 0) (pos 0) 1025 3) (filled 257) 0 4 [] ≡ refused 1)
    × (paint_call (oval (pos 0) (pos 0) 4 4) (filled 257) 0 4 [] ≡ refused 5)
    × (paint_call (oval (pos 0) (pos 0) 4 4) (filled 0) 0 4 (0 ∷ []) ≡ refused 6)
    × (paint_call (oval (pos 0) (pos 0) 4 4) (filled 0) 4 4 (replicate 15 0) ≡ refused 8)
    × (paint_call (oval (pos 0) (pos 0) 4 4) (filled 0) 4 4 (replicate 16 0) ≡ answered [])
unfolding paint_check styled_check size_check position_check style_check canvas_size_check canvas_length_check
lowest_numbers = (refl, refl, refl, refl, refl)
