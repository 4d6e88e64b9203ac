-- The checks of points, sizes and offsets, for the refusals 1, 3, 4 and 5.
-- Assumes nothing.
use Rattle.std.specs.Prelude.{◌+◌, ℤ}
use Rattle.refusal.specs.declared.Refusal.TheVariants.{Side, Position, Asked, Offset}
use Rattle.refusal.specs.Refusal.{refuse_if, or_else, above, beyond, Checked}
use Rattle.geometry.specs.declared.Point.{Point}
use Rattle.geometry.specs.declared.Size.{Size}
use Rattle.geometry.specs.Limits.{max_side, max_position, max_asked, max_offset}

-- 1: a side above the limit
unfoldable pub size_check : Size → Checked
size_check s = or_else (refuse_if (above max_side s.width) Side) (refuse_if (above max_side s.height) Side)

-- 3: a rectangle's x or y beyond the limit
unfoldable pub position_check : Point → Checked
position_check p = or_else (refuse_if (beyond max_position p.x) Position) (refuse_if (beyond max_position p.y) Position)

-- a centre further out than that of any rectangle within limits: the check by which `with_center` keeps its difference small
unfoldable pub center_check : Point → Checked
center_check c =
    or_else (refuse_if (beyond (max_position + max_side) c.x) Position) (refuse_if (beyond (max_position + max_side) c.y) Position)

-- 4: an asked coordinate or row beyond the limit, and a point of two
unfoldable pub asked_check : ℤ → Checked
asked_check z = refuse_if (beyond max_asked z) Asked

unfoldable pub point_check : Point → Checked
point_check p = or_else (asked_check p.x) (asked_check p.y)

-- 5: an offset beyond the limit
unfoldable pub offset_check : ℤ → Checked
offset_check k = refuse_if (beyond max_offset k) Offset
