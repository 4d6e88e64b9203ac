-- What a styled row makes of a canvas: the runs laid over the canvas row, or nothing where the canvas or the figure lacks it.
-- Assumes nothing.
use Rattle.scanline.specs.Rows.{StyledRow}
use Rattle.std.specs.Prelude.{Some, None}
use mathlib.Core.Path.{◌≡◌, refl, ap, ◌∙◌}
use mathlib.Core.Bool.{Bool, true, false, cond}
use mathlib.Core.List.{List}
use Prim.Native.Nat.{ℕ, ◌≤◌, ◌<◌}
use native.Mathlib.Omega.{arith}
use borrow.Author.Tests.{lt-ltb, le-ltb}
use lib.Dec.{ltb}
use lib.IntN.{ℤ, pos, negsuc}
use lib.Signed.{lt_z}
use Rattle.signed.specs.Signed.{floor0}
use Rattle.signed.proofs.Laws.{int}
use Rattle.scanline.specs.declared.StyledRuns.{StyledRuns}
use Rattle.style.specs.declared.Style.{Style}
use Rattle.book.specs.Canvas.{canvas_row, put_row}
use Rattle.book.specs.Sheet.{with_row}
use Rattle.book.proofs.CanvasRows.{put_row_same}
use Rattle.canvas.specs.Canvas.{overpaint, overpaint_at}
use Rattle.canvas_row.specs.CanvasRow.{paint_by}

module _ (row_at : ℤ → StyledRow) (style : Style) (W H : ℕ) (canvas : List ℕ) where
  -- only the row at y counts
  pub paint_by_row : (row : StyledRow) (y : ℤ) → row ≡ row_at y
      → paint_by (λ _. row) style W H y canvas ≡ paint_by row_at style W H y canvas
  unfolding with_row
  paint_by_row row (pos y) is =
      ap (λ (r : StyledRow). cond (ltb y H) (put_row W y (overpaint style r (canvas_row W y canvas)) canvas) canvas) is
  paint_by_row row (negsuc y) is = refl

  -- a row that the figure lacks
  pub paint_by_lacking : (y : ℤ) → row_at y ≡ None → paint_by row_at style W H y canvas ≡ canvas
  unfolding with_row
  paint_by_lacking (pos y) is = by_test (ltb y H)
    where
      by_test : (t : Bool) → cond t (put_row W y (overpaint style (row_at (pos y)) (canvas_row W y canvas)) canvas) canvas ≡ canvas
      by_test true =
          ap (λ (row : StyledRow). put_row W y (overpaint style row (canvas_row W y canvas)) canvas) is ∙ put_row_same W y canvas
      by_test false = refl
  paint_by_lacking (negsuc y) is = refl

  -- rows that the canvas lacks
  pub paint_by_above : (y : ℤ) → lt_z y (pos 0) ≡ true → paint_by row_at style W H y canvas ≡ canvas
  unfolding with_row
  paint_by_above (pos y) above = absurd (omega (arith, int))
  paint_by_above (negsuc y) above = refl

  pub paint_by_below : (y : ℤ) → lt_z y (pos 0) ≡ false → H ≤ floor0 y → paint_by row_at style W H y canvas ≡ canvas
  unfolding with_row
  paint_by_below (pos y) from low = rw (le-ltb y H (omega arith))
  paint_by_below (negsuc y) from low = refl

  -- a row that it has
  abbrev with : StyledRow → ℤ → List ℕ
  with row y = put_row W (floor0 y) (overpaint style row (canvas_row W (floor0 y) canvas)) canvas

  paint_by_on : (y : ℤ) → lt_z y (pos 0) ≡ false → floor0 y < H → paint_by row_at style W H y canvas ≡ with (row_at y) y
  unfolding with_row
  paint_by_on (pos y) from low =
      let here : floor0 (pos y) ≡ y = omega arith in
      rw (here, lt-ltb y H (omega arith))
  paint_by_on (negsuc y) from low = absurd (omega (arith, int))

  module _ (y : ℤ) (from : lt_z y (pos 0) ≡ false) (low : floor0 y < H) where
    pub paint_by_runs : (runs : StyledRuns) → row_at y ≡ Some runs
        → paint_by row_at style W H y canvas ≡ overpaint_at W (floor0 y) style runs canvas
    paint_by_runs runs is = paint_by_on y from low ∙ ap (λ (row : StyledRow). with row y) is
