-- `rounded_rectangle::RoundedRectangleContains::insets` meets its contract: each side's inset is that of its two corners.
use Rattle.rounded_rectangle.proofs.Fields.{insets_by_fields}
use native.Mathlib.Omega.{arith}
use Rattle.rounded_rectangle.proofs.RoundedRectangleContains.insets.Goals as goal

pub side_inset-requires : goal.side_inset-requires
side_inset-requires c =
    let wide = c.requires.ready_box.size.width in record { ready = c.requires.ready_box.top_left; ready_2 = c.requires.ready_box.bottom_left; dy_lt_h = (c.requires.dy_lt_height, omega arith) }

pub side_inset-requires-2 : goal.side_inset-requires-2
side_inset-requires-2 c =
    let wide = c.requires.ready_box.size.width in record { ready = c.requires.ready_box.top_right; ready_2 = c.requires.ready_box.bottom_right; dy_lt_h = (c.requires.dy_lt_height, omega arith) }

pub returns : goal.returns
returns c = (
  insets_by_fields c.side_inset.ensures.0 c.side_inset-2.ensures.0,
  c.side_inset.ensures.1,
  c.side_inset-2.ensures.1,
)
