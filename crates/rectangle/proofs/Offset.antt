-- Laws of centres and offsets: by parts, so that `omega` reads them, and the bounds of what comes out.
-- Assumes nothing.
use Prim.Native.Nat.{ℕ, ◌+◌, ◌*◌, ◌≤◌}
use native.Mathlib.Omega.{arith}
use lib.IntN.{ℤ, pos, ◌+ℤ◌, ◌-ℤ◌}
use Rattle.signed.specs.Signed.{max_i32, Near}
use Rattle.signed.proofs.Laws.{add_law, near_add, near_sub, one_part_zero}
pub use Rattle.rectangle_side.proofs.Parts.{offset_side_by_parts}
use Rattle.geometry.specs.declared.Size.{Size}
use Rattle.rectangle.specs.declared.Rectangle.{Rectangle}
use Rattle.geometry.specs.Bounds.{wide_point, wide_side, PointNear, SizeUpTo}
use Rattle.rectangle.specs.Bounds.{Bounded}
use Rattle.rectangle.specs.Rectangle.{center_term, center, with_center, offset_side, offset_size, offset}

-- the centre of a bounded rectangle is near, and so is the corner of a bounded size about a near centre
pub center_near : (r : Rectangle) → Bounded r → PointNear (2 * wide_point) (center r)
unfolding center
center_near r b = record { x = by_axis b.at.x b.size.width; y = by_axis b.at.y b.size.height }
  where
    by_axis : {z : ℤ} {side : ℕ} → Near wide_point z → side ≤ wide_side → Near (2 * wide_point) (z +ℤ pos (center_term side))
    by_axis {z} {side} n s = near_add (2 * wide_point) z (pos (center_term side)) (let a = n.above in let b = n.below in omega arith)

-- offset by at most n, a size up to m is at most m + 2n
pub offset_size_up_to : (m n : ℕ) (s : Size) (k : ℤ) → SizeUpTo m s → Near n k → SizeUpTo (m + 2 * n) (offset_size s k)
offset_size_up_to m n s k u near =
    record { width = by_side s.width u.width; height = by_side s.height u.height }
  where
    by_side : (side : ℕ) → side ≤ m → offset_side side k ≤ m + 2 * n
    by_side side h = let a = near.above in omega (arith, offset_side_by_parts side k)

-- the corner moves by at most the offset
pub offset_position_near : (p n : ℕ) (r : Rectangle) (k : ℤ) → PointNear p r.top_left → Near n k → p + n ≤ max_i32
    → PointNear (p + n) (offset r k).top_left
unfolding offset with_center center
offset_position_near p n r k at near small =
    record { x = by_axis at.x r.size.width; y = by_axis at.y r.size.height }
  where
    by_axis : {z : ℤ} → Near p z → (side : ℕ) → Near (p + n) (z +ℤ pos (center_term side) -ℤ pos (center_term (offset_side side k)))
    by_axis {z} q side =
        let z_above = q.above in
        let z_below = q.below in
        let k_above = near.above in
        let k_below = near.below in
        near_sub (p + n) (z +ℤ pos (center_term side)) (pos (center_term (offset_side side k)))
        (omega (arith, add_law z (pos (center_term side)), offset_side_by_parts side k, one_part_zero k))
