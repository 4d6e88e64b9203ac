-- What a passed check of a point, a size or an offset says: every number is within its limit.
-- Assumes nothing.
use mathlib.Core.Path.{◌≡◌}
use Prim.Native.Nat.{◌+◌, ◌*◌, ◌≤◌}
use native.Mathlib.Omega.{arith}
use lib.IntN.{ℤ, nat_abs}
use Rattle.signed.specs.Signed.{Near}
use Rattle.signed.proofs.Laws.{near_within}
use Rattle.refusal.specs.declared.Refusal.TheVariants.{Side, Position}
use Rattle.refusal.specs.Refusal.{refuse_if, above, beyond, passed}
use Rattle.refusal.proofs.Checks.{passed_first, passed_next, passed_above, passed_beyond}
use Rattle.geometry.specs.declared.Point.{Point}
use Rattle.geometry.specs.declared.Size.{Size}
use Rattle.geometry.specs.Limits.{max_side, max_position, max_asked, max_offset}
use Rattle.geometry.specs.Bounds.{wide_point, PointNear, SizeUpTo}
use Rattle.geometry.specs.Checks.{size_check, position_check, center_check, asked_check, point_check, offset_check}

pub size_passed : (s : Size) → size_check s ≡ passed → SizeUpTo max_side s
unfolding size_check
size_passed s e =
    record {
      width = passed_above max_side s.width Side (passed_first _ _ e);
      height = passed_above max_side s.height Side (passed_next (refuse_if (above max_side s.width) Side) _ e);
    }

pub position_passed : (p : Point) → position_check p ≡ passed → PointNear max_position p
unfolding position_check
position_passed p e =
    record {
      x = near_within max_position p.x (passed_beyond max_position p.x Position (passed_first _ _ e)) (omega arith);
      y =
          near_within max_position p.y (passed_beyond max_position p.y Position
          (passed_next (refuse_if (beyond max_position p.x) Position) _ e)) (omega arith);
    }

pub offset_passed : (k : ℤ) → offset_check k ≡ passed → Near max_offset k
unfolding offset_check
offset_passed k e = near_within max_offset k (passed_beyond max_offset k _ e) (omega arith)

pub asked_passed : (z : ℤ) → asked_check z ≡ passed → Near max_asked z
unfolding asked_check
asked_passed z e = near_within max_asked z (passed_beyond max_asked z _ e) (omega arith)

pub point_passed : (p : Point) → point_check p ≡ passed → PointNear max_asked p
unfolding point_check
point_passed p e =
    record { x = asked_passed p.x (passed_first _ _ e); y = asked_passed p.y (passed_next (asked_check p.x) _ e) }

-- ---- a centre that passes is near
pub center_passed : (c : Point) → center_check c ≡ passed → PointNear (2 * wide_point) c
unfolding center_check
center_passed c e =
    record {
      x = wider c.x (passed_beyond (max_position + max_side) c.x Position (passed_first _ _ e));
      y =
          wider c.y (passed_beyond (max_position + max_side) c.y Position
          (passed_next (refuse_if (beyond (max_position + max_side) c.x) Position) _ e));
    }
  where
    wider : (z : ℤ) → nat_abs z ≤ max_position + max_side → Near (2 * wide_point) z
    wider z h = near_within (2 * wide_point) z (omega arith) (omega arith)
