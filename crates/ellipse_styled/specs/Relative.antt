-- `ellipse_styled_row` by places counted from the stroke area's left edge, which the code computes: proofs/Rows.antt equates the two.
-- Assumes nothing.
use Rattle.scanline.specs.Places.{Place}
use Rattle.std.specs.Prelude.{◌≡◌, ℕ, ℤ, pos, ◌+ℤ◌, ◌-ℤ◌, Some, None}
use Rattle.scanline.specs.declared.StyledRuns.{StyledRuns}
use Rattle.rectangle.specs.Bounds.{Bounded}
use Rattle.ellipse.specs.Relative.{contains_of, SmallWeights}
use Rattle.ellipse_rows.specs.Relative.{first_row_inside}
use Rattle.ellipse_styled.specs.declared.StyledEllipse.{StyledEllipse}

-- a column counted from the left edge, and one counted before the end of w columns
abbrev pub from_left_edge : ℤ → ℕ → ℤ
from_left_edge left k = left +ℤ pos k

abbrev pub from_right_edge : ℤ → ℕ → ℕ → ℤ
from_right_edge left w k = left +ℤ pos w -ℤ pos k

-- the three runs of a row of w columns whose stroke starts at place s and whose fill starts at a place, if anywhere
abbrev pub runs_from : ℤ → ℕ → ℕ → Place → StyledRuns
runs_from left w s (Some c) =
    record {
      stroke_left = record { start = from_left_edge left s; end = from_left_edge left c };
      fill = record { start = from_left_edge left c; end = from_right_edge left w c };
      stroke_right = record { start = from_right_edge left w c; end = from_right_edge left w s };
    }
runs_from left w s None =
    record {
      stroke_left = record { start = from_left_edge left s; end = from_right_edge left w s };
      fill = record { start = from_right_edge left w s; end = from_right_edge left w s };
      stroke_right = record { start = from_right_edge left w s; end = from_right_edge left w s };
    }

-- an ellipse made ready: the tests are those of its stroke area and its fill sides, and it has rows if its first has a column
pub record ReadyEllipse (e : StyledEllipse) : Type 0 where
  pub area : Bounded e.area
  pub stroke : e.stroke ≡ contains_of e.area.size.width e.area.size.height
  pub stroke_weights : SmallWeights e.stroke
  pub fill : e.fill ≡ contains_of e.sides.width e.sides.height
  pub fill_weights : SmallWeights e.fill
  pub rows : e.rows ≡ first_row_inside e.area.size.width e.area.size.height
