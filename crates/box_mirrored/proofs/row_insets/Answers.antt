-- `box_mirrored::row_insets` meets its contract: where the corners on both sides are alike, the insets are.
use Rattle.rounded_rectangle.specs.Relative.{radii}
use Rattle.box_mirrored.proofs.Sides.{alike_equal, insets_alike, side_wide}
use Rattle.box_mirrored.proofs.row_insets.Goals as goal

pub side_inset-inset-requires : goal.side_inset-inset-requires
side_inset-inset-requires c =
    let ready = c.requires.ready_box in record { ready = ready.top_left; ready_2 = ready.bottom_left; dy_lt_h = (c.requires.dy_lt_height, side_wide ready.size.width) }

pub returns-then-are_alike-2 : goal.returns-then-are_alike-2
returns-then-are_alike-2 c =
    let at_are_alike2 = c.are_alike-then-are_alike in
    let at_if1 = c.if-are_alike in
    let at_are_alike = c.are_alike in
    let a = c.args in
    let inset = c.side_inset-inset.ensures in (
      insets_alike (radii a.b) a.b.size.width a.b.size.height a.dy c.side_inset-inset.result
          (alike_equal c.are_alike.ensures c.if-are_alike.true)
          (alike_equal c.are_alike-then-are_alike.ensures c.if-are_alike-2.true) c.side_inset-inset.ensures.0,
      c.side_inset-inset.ensures.1,
      c.side_inset-inset.ensures.1,
    )
