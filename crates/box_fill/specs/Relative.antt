-- `fill_run` counted from the fill area's edges, which the code computes: proofs/Rows.antt equates the two. A column of the
-- box is counted from its left edge, and for the last contained one from its right edge, so that one search serves both.
-- Assumes nothing.
use Rattle.scanline.specs.Places.{Place}
use Rattle.std.specs.Prelude.{◌≡◌, ℕ, ◌-◌, ◌*◌, min, ℤ, pos, ◌+ℤ◌, ◌-ℤ◌, Some, None}
use Rattle.signed.specs.Signed.{Near, floor0}
use Rattle.geometry.specs.declared.Size.{Size}
use Rattle.geometry_range.specs.declared.Range.{Range}
use Rattle.rectangle.specs.declared.Rectangle.{Rectangle}
use Rattle.geometry.specs.Bounds.{wide_point, PointNear}
use Rattle.corner_radii.specs.declared.CornerRadii.{CornerRadii}
use Rattle.rounded_rectangle.specs.declared.RoundedRectangle.{RoundedRectangle}
use Rattle.rounded_rectangle.specs.declared.RoundedRectangleContains.{RoundedRectangleContains}
use Rattle.rounded_rectangle.specs.Relative.{ReadyBox, radii}
use Rattle.box_columns.specs.Columns.{first_contained, last_contained}

-- ---- what the functions take
-- a fill area made ready: its rectangle, and its test for many rows
pub record ReadyFill (r : Rectangle) (b : RoundedRectangleContains) : Type 0 where
  pub at : PointNear wide_point r.top_left
  pub size : r.size ≡ b.size
  pub ready : ReadyBox b

-- the box that it stands for
abbrev pub box_of : Rectangle → RoundedRectangleContains → RoundedRectangle
box_of r b = record { rectangle = r; corners = radii b }

-- a stroke area's run: its ends may lie a side beyond a point, and may be reversed
pub record NearRun (run : Range) : Type 0 where
  pub start : Near (2 * wide_point) run.start
  pub end : Near (2 * wide_point) run.end

-- ---- the fill of row dy
-- v as a place among n columns from `first` on: 0 before them, n after them
abbrev pub place_in : ℤ → ℕ → ℤ → ℕ
place_in first n v = min (floor0 (v -ℤ first)) n

-- the column of a place counted from the left edge, and the one after the column of a place counted from the right edge of
-- w columns; else another
abbrev pub start_else : ℤ → ℤ → Place → ℤ
start_else left other (Some k) = left +ℤ pos k
start_else left other None = other

abbrev pub end_else : ℤ → ℕ → ℤ → Place → ℤ
end_else left w other (Some k) = left +ℤ pos w -ℤ pos k
end_else left w other None = other

-- the fill of row dy of a fill area whose first column is `left`: the columns of the run that the box has go from one place
-- up to another
unfoldable pub row_fill : CornerRadii → Size → ℤ → ℕ → Range → Range
row_fill c s left dy run =
    let w = s.width in
    let from = place_in left w run.start in
    let to = place_in left w run.end in
    record {
      start = start_else left run.start (first_contained c s dy from to);
      end = end_else left w run.end (last_contained c s dy (w - to) (w - from));
    }
