-- What the inner functions ask of their arguments. The bounds are wider than the limits of `Limits`, so that raising those moves
-- no inner contract: sides up to twice a radius of 4096 grown by 256, points up to ±32768.
-- Assumes nothing.
use Rattle.std.specs.Prelude.{ℕ, ◌≤◌}
use Rattle.signed.specs.Signed.{Near}
pub use Rattle.rectangle_side.specs.Side.{wide_side}
use Rattle.geometry.specs.declared.Point.{Point}
use Rattle.geometry.specs.declared.Size.{Size}

abbrev pub wide_point : ℕ
wide_point = 32768

-- both coordinates are at most n away from 0
pub record PointNear (n : ℕ) (p : Point) : Type 0 where
  pub x : Near n p.x
  pub y : Near n p.y

-- both sides are at most n
pub record SizeUpTo (n : ℕ) (s : Size) : Type 0 where
  pub width : s.width ≤ n
  pub height : s.height ≤ n
