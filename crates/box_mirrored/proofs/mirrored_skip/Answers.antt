-- `box_mirrored::mirrored_skip` meets its contract: the tests say which corners the row has, that they are alike and that they do not
-- overlap; what one of them leaves out is left out on both sides.
use mathlib.Core.Path.{sym, ap, ap₂, ◌∙◌}
use Prim.Native.Nat.{◌*◌, ◌-◌, ◌≤◌, max}
use native.Mathlib.Omega.{arith}
use Rattle.rounded_rectangle.specs.Relative.{radii}
use Rattle.box_columns.specs.Columns.{covered, left_out}
use Rattle.box_mirrored.proofs.Sides.{alike_equal, between_upper, between_lower, cover_small}
use Rattle.box_mirrored.proofs.mirrored_skip.Goals as goal

pub overflow_mul-by_top_left : goal.overflow_mul-by_top_left
overflow_mul-by_top_left c =
    let at_covered = c.covered-by_top_left in
    let few = cover_small c.args.b.top_left.radius _ _ c.covered-by_top_left.ensures c.requires.ready_box.top_left.small.width in
    record { fits = omega (arith, few) }

pub returns-then-by_top_left-size : goal.returns-then-by_top_left-size
returns-then-by_top_left-size c =
    let at_if2 = c.if-are_alike in
    let at_are_alike = c.are_alike in
    let at_if1 = c.if-by_bottom-eq0 in
    let at_most2 = c.most-by_bottom in
    let at_covered4 = c.covered-2 in
    let at_covered2 = c.covered-by_bottom_left in
    let b = c.args.b in
    let dy = c.args.dy in
    let cover = c.covered-by_top_left.ensures in
    let half : 2 * covered b.top_left.radius dy ≤ b.size.width = omega (arith, c.covered-by_top_left.ensures, c.if-by_top_left-size.true) in
    let none = sym (c.most-by_bottom.ensures ∙ ap₂ max c.covered-by_bottom_left.ensures c.covered-2.ensures) ∙ c.if-by_bottom-eq0.true in
    between_upper (radii b) b.size dy c.left_out.result (alike_equal c.are_alike.ensures c.if-are_alike.true) half none
    (c.left_out.ensures ∙ ap (left_out b.top_left.radius dy) c.covered-by_top_left.ensures)

pub overflow_mul-by_bottom_left : goal.overflow_mul-by_bottom_left
overflow_mul-by_bottom_left c =
    let at_covered2 = c.covered-by_bottom_left in
    let few = cover_small c.args.b.bottom_left.radius _ _ c.covered-by_bottom_left.ensures c.requires.ready_box.bottom_left.small.width in
    record { fits = omega (arith, few) }

pub returns-then-by_bottom_left-size : goal.returns-then-by_bottom_left-size
returns-then-by_bottom_left-size c =
    let at_if5 = c.if-are_alike-2 in
    let at_are_alike2 = c.are_alike-then-by_top-eq0 in
    let at_if4 = c.if-by_top-eq0 in
    let at_most = c.most-by_top in
    let at_covered3 = c.covered in
    let at_covered = c.covered-by_top_left in
    let b = c.args.b in
    let dy = c.args.dy in
    let below = b.size.height - 1 - dy in
    let cover = c.covered-by_bottom_left.ensures in
    let half : 2 * covered b.bottom_left.radius below ≤ b.size.width = omega (arith, c.covered-by_bottom_left.ensures, c.if-by_bottom_left-size.true) in
    let none = sym (c.most-by_top.ensures ∙ ap₂ max c.covered-by_top_left.ensures c.covered.ensures) ∙ c.if-by_top-eq0.true in
    between_lower (radii b) b.size dy c.left_out-then-by_bottom_left-size.result (alike_equal c.are_alike-then-by_top-eq0.ensures c.if-are_alike-2.true) half none
    (c.left_out-then-by_bottom_left-size.ensures ∙ ap (left_out b.bottom_left.radius below) c.covered-by_bottom_left.ensures)
