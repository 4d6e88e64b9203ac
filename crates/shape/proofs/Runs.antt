-- A run that keeps to the columns of an area: how long it is, and that its ends are near.
-- Assumes nothing.
use mathlib.Core.Path.{◌≡◌}
use mathlib.Core.Bool.{true}
use Prim.Native.Nat.{ℕ, ◌*◌, ◌≤◌}
use native.Mathlib.Omega.{arith}
use lib.IntN.{ℤ, pos, ◌+ℤ◌}
use lib.Signed.{le_z}
use mir.Syntax.{w32}
use Rattle.signed.specs.Signed.{Near}
use Rattle.signed.proofs.Laws.{int, add_law, sub_law, fits_by_parts}
use Rattle.geometry_range.specs.declared.Range.{Range}
use Rattle.geometry.specs.Bounds.{wide_point}
use Rattle.scanline.specs.Points.{run_length, EndsWithin}
use Rattle.corner.specs.Bounds.{wide_stroke_side}
use Rattle.shape.specs.BoxBounds.{wide_area_position}

-- a run that keeps to w columns from left on has at most w columns, and its ends are near
module _ (left : ℤ) (w : ℕ) (r : Range) (near : Near wide_area_position left) (small : w ≤ wide_stroke_side) (ends : EndsWithin left w r) where
  pub run_length_le : run_length r ≤ w
  run_length_le =
      let a = ends.start_from in
      let b = ends.end_to in
      omega (arith, int, add_law left (pos w), sub_law r.end r.start)

  end_near : (z : ℤ) → le_z left z ≡ true → le_z z (left +ℤ pos w) ≡ true → Near (2 * wide_point) z
  end_near z from to =
      let above = near.above in
      let below = near.below in
      record {
        above = omega (arith, int, add_law left (pos w));
        below = omega (arith, int, add_law left (pos w));
        fits = fits_by_parts w32 z (omega (arith, int, add_law left (pos w)));
      }

  pub start_is_near : Near (2 * wide_point) r.start
  start_is_near = end_near r.start ends.start_from ends.start_to

  pub end_is_near : Near (2 * wide_point) r.end
  end_is_near = end_near r.end ends.end_from ends.end_to
