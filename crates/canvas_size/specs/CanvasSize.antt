-- Document 01, 'The records': a canvas is W × H lent bytes, W and H 1..1024. The refusals 6 and 8 of its table.
-- Assumes nothing.
use Rattle.std.specs.Prelude.{not, ℕ, ◌*◌, ◌≤◌, ltb, eqb}
use Rattle.refusal.specs.declared.Refusal.TheVariants.{CanvasSide, CanvasLength}
use Rattle.geometry.specs.Limits.{max_canvas_side}
use Rattle.refusal.specs.Refusal.{refuse_if, or_else, above, Checked}

-- 6 of one side: it is below 1, or above the limit
abbrev pub side_check : ℕ → Checked
side_check n = or_else (refuse_if (ltb n 1) CanvasSide) (refuse_if (above max_canvas_side n) CanvasSide)

-- 6: W or H outside 1..1024
unfoldable pub canvas_size_check : ℕ → ℕ → Checked
canvas_size_check W H = or_else (side_check W) (side_check H)

-- 8: the canvas length n is not W × H
unfoldable pub canvas_length_check : ℕ → ℕ → ℕ → Checked
canvas_length_check W H n = refuse_if (not (eqb n (W * H))) CanvasLength

-- what a size that passes is: both sides are 1..1024
pub record CanvasSides (W H : ℕ) : Type 0 where
  pub width_least : 1 ≤ W
  pub width_most : W ≤ max_canvas_side
  pub height_least : 1 ≤ H
  pub height_most : H ≤ max_canvas_side
