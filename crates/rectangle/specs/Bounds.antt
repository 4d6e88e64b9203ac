-- What the inner functions ask of a rectangle, by the bounds of `geometry`.
-- Assumes nothing.
use Rattle.geometry.specs.Bounds.{wide_side, wide_point, PointNear, SizeUpTo}
use Rattle.rectangle.specs.declared.Rectangle.{Rectangle}

-- a rectangle that the inner functions take: a figure's, and a stroke area's too
pub record Bounded (r : Rectangle) : Type 0 where
  pub at : PointNear wide_point r.top_left
  pub size : SizeUpTo wide_side r.size
