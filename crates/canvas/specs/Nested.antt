-- When a styled row may be painted as its whole run in the stroke paint and then the fill over it, as the code does with short rows:
-- proofs/Nested.antt says that it comes to the same.
-- Assumes nothing.
use Rattle.style.specs.Style.{Paint}
use Rattle.std.specs.Prelude.{◌≡◌, true, ℕ, Some}
use Rattle.std.specs.Int.Signed.{le_z}
use Rattle.geometry_range.specs.declared.Range.{Range}
use Rattle.scanline.specs.declared.StyledRuns.{StyledRuns}

-- from the start of the left stroke to the end of the right one
abbrev pub whole_run : StyledRuns → Range
whole_run runs = record { start = runs.stroke_left.start; end = runs.stroke_right.end }

-- the fill hides what lies under it, nothing is left open between it and the strokes, the right stroke begins where it ends, and
-- neither stroke leaves the whole run
pub record Nested (runs : StyledRuns) (fill : Paint) : Type 0 where
  pub colour : ℕ
  pub fill_is : fill ≡ Some colour
  pub left_reaches : le_z runs.fill.start runs.stroke_left.end ≡ true
  pub right_reaches : le_z runs.stroke_right.start runs.fill.end ≡ true
  pub right_after : le_z runs.fill.end runs.stroke_right.start ≡ true
  pub left_within : le_z runs.stroke_left.end runs.stroke_right.end ≡ true
  pub right_within : le_z runs.stroke_left.start runs.stroke_right.start ≡ true
