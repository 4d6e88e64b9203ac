-- `rectangle::bounded::offset` meets its contract: the callees' equations chain to the definition, within their bounds by the
-- laws of `Offset`.
use mathlib.Core.Path.{sym, ap, ap₂, ◌∙◌, subst}
use mir.Facts.{to_z-of_z}
use Prim.Native.Nat.{◌*◌}
use Rattle.geometry.specs.Bounds.{wide_side, wide_point, PointNear}
use Rattle.rectangle.specs.Rectangle.{with_center, offset_side, offset}
use Rattle.geometry.proofs.Fields.{size_by_fields}
use Rattle.rectangle.proofs.Offset.{center_near, offset_size_up_to}
use native.Mathlib.Omega.{arith}
use Rattle.rectangle.proofs.bounded.offset.Goals as goal

pub with_center-requires : goal.with_center-requires
with_center-requires c =
    let r = c.args.rectangle in
    let near = c.requires.near in
    let grown = offset_size_up_to wide_side wide_side r.size c.args.k c.requires.bounded.size near in
    let k_back = to_z-of_z c.ranges.k in
    let width = c.offset_side.ensures ∙ ap (offset_side r.size.width) k_back in
    let height = c.offset_side-2.ensures ∙ ap (offset_side r.size.height) k_back in record {
      point_near = subst (PointNear (2 * wide_point)) (sym c.center.ensures) (center_near r c.requires.bounded);
      size_up_to = record {
        width = let h = grown.width in omega (arith, width);
        height = let h = grown.height in omega (arith, height);
      };
    }

pub returns : goal.returns
unfolding offset
returns c =
    let k_back = to_z-of_z c.ranges.k in
    c.with_center.ensures
    ∙ ap₂ with_center c.center.ensures
    (size_by_fields
    (c.offset_side.ensures ∙ ap (offset_side c.args.rectangle.size.width) k_back)
    (c.offset_side-2.ensures ∙ ap (offset_side c.args.rectangle.size.height) k_back))
