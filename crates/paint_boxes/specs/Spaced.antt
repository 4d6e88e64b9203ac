-- One styled row painted on rows of a canvas at equal distances, and which rows a turn of the loop paints.
-- Assumes nothing.
use Rattle.scanline.specs.Rows.{StyledRow}
use Rattle.std.specs.Prelude.{◌≡◌, List, ℕ, zero, suc, ◌+◌, ◌-◌, ◌*◌, ◌<◌, ◌≤◌, ℤ, pos, ◌+ℤ◌}
use Rattle.signed.specs.Signed.{Near}
use Rattle.style.specs.declared.Style.{Style}
use Rattle.drawing.specs.Drawing.{paint_by}
use Rattle.paint_rows.specs.Rows.{wide_painted}
use Rattle.paint_boxes.specs.declared.Turn.{Turn}

-- one styled row painted at n rows, the first at y and each `step` below the one before
unfoldable pub spaced_by : StyledRow → Style → ℕ → ℕ → ℤ → ℕ → ℕ → List ℕ → List ℕ
spaced_by row style W H y step zero canvas = canvas
spaced_by row style W H y step (suc n) canvas =
    spaced_by row style W H (y +ℤ pos step) step n (paint_by (λ _. row) style W H y canvas)

-- each of these rows is a row of a figure
abbrev pub SpacedNear : ℤ → ℕ → ℕ → Type 0
SpacedNear y step zero = Unit {0}
SpacedNear y step (suc n) = Near wide_painted y × SpacedNear (y +ℤ pos step) step n

-- the rows painted like row dy of `height`: one of the first so many with the row that mirrors it, and from there on all rows
-- that are
-- left between; and the row to go on with
pub record TurnAt (height pairs dy : ℕ) (t : Turn) : Type 0 where
  pub pair_step : dy < pairs → t.step ≡ height - 1 - 2 * dy
  pub pair_count : dy < pairs → t.count ≡ 2
  pub pair_next : dy < pairs → t.next ≡ dy + 1
  pub rest_step : pairs ≤ dy → t.step ≡ 1
  pub rest_count : pairs ≤ dy → t.count ≡ height - pairs - dy
  pub rest_next : pairs ≤ dy → t.next ≡ height - pairs
