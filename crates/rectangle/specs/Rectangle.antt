-- Document 01, 'Rectangle and offset' (`rectangle/mod.rs`).
-- Assumes nothing.
use Rattle.std.specs.Prelude.{ℤ, pos, ◌+ℤ◌, ◌-ℤ◌}
pub use Rattle.rectangle_side.specs.Side.{center_term}
unfoldable pub use Rattle.rectangle_side.specs.Side.{offset_side}
use Rattle.geometry.specs.declared.Point.{Point}
use Rattle.geometry.specs.declared.Size.{Size}
use Rattle.geometry_range.specs.declared.Range.{Range}
use Rattle.rectangle.specs.declared.Rectangle.{Rectangle}

-- the centre: top-left plus the term of each side (`Rectangle::center`)
unfoldable pub center : Rectangle → Point
center r =
    record {
      x = r.top_left.x +ℤ pos (center_term r.size.width);
      y = r.top_left.y +ℤ pos (center_term r.size.height);
    }

-- the rectangle of a new size about a centre: the term of the new size is subtracted (`Rectangle::with_center`)
unfoldable pub with_center : Point → Size → Rectangle
with_center c s =
    record {
      top_left = record { x = c.x -ℤ pos (center_term s.width); y = c.y -ℤ pos (center_term s.height) };
      size = s;
    }

-- the rows y..y + height, also when the width is 0 (`Rectangle::rows`)
abbrev pub rows : Rectangle → Range
rows r = record { start = r.top_left.y; end = r.top_left.y +ℤ pos r.size.height }

-- the columns x..x + width, also when the height is 0 (`Rectangle::columns`)
abbrev pub columns : Rectangle → Range
columns r = record { start = r.top_left.x; end = r.top_left.x +ℤ pos r.size.width }

-- both sides of a size offset by k
abbrev pub offset_size : Size → ℤ → Size
offset_size s k = record { width = offset_side s.width k; height = offset_side s.height k }

-- a rectangle offset by k about its centre (`OffsetOutline::offset`)
unfoldable pub offset : Rectangle → ℤ → Rectangle
offset r k = with_center (center r) (offset_size r.size k)
