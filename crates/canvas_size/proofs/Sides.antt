-- What the checks of a canvas say once they have passed, and that the product of two sides fits 64 bits.
-- Assumes nothing.
use mathlib.Core.Path.{◌≡◌, refl}
use mathlib.Core.Bool.{Bool, true, false, not}
use Prim.Native.Nat.{ℕ, ◌*◌, ◌^◌, ◌≤◌, ◌<◌}
use native.Mathlib.Nat.{mul-le-mul}
use native.Mathlib.Omega.{arith}
use borrow.Author.Tests.{ltb-false, eqb-true}
use lib.Dec.{ltb, eqb}
use Rattle.refusal.specs.declared.Refusal.TheVariants.{CanvasSide, CanvasLength}
use Rattle.geometry.specs.Limits.{max_canvas_side}
use Rattle.refusal.specs.Refusal.{refuse_if, passed}
use Rattle.refusal.proofs.Checks.{passed_first, passed_next, passed_condition, passed_above}
use Rattle.canvas_size.specs.CanvasSize.{side_check, canvas_size_check, canvas_length_check, CanvasSides}

pub side_passed_least : (n : ℕ) → side_check n ≡ passed → 1 ≤ n
side_passed_least n e = ltb-false n 1 (passed_condition (ltb n 1) CanvasSide (passed_first _ _ e))

pub side_passed_most : (n : ℕ) → side_check n ≡ passed → n ≤ max_canvas_side
side_passed_most n e = passed_above max_canvas_side n CanvasSide (passed_next (refuse_if (ltb n 1) CanvasSide) _ e)

pub canvas_size_passed : (W H : ℕ) → canvas_size_check W H ≡ passed → CanvasSides W H
unfolding canvas_size_check
canvas_size_passed W H e =
    let width = passed_first (side_check W) (side_check H) e in
    let height = passed_next (side_check W) (side_check H) e in
    record {
      width_least = side_passed_least W width;
      width_most = side_passed_most W width;
      height_least = side_passed_least H height;
      height_most = side_passed_most H height;
    }

pub canvas_length_passed : (W H n : ℕ) → canvas_length_check W H n ≡ passed → n ≡ W * H
unfolding canvas_length_check
canvas_length_passed W H n e =
    let equal = eqb n (W * H) in
    eqb-true n (W * H) (not_false_is_true equal (passed_condition (not equal) CanvasLength e))
  where
    not_false_is_true : (b : Bool) → not b ≡ false → b ≡ true
    not_false_is_true true e = refl
    not_false_is_true false e = let z : ◌≡◌ {A = ℕ} 0 1 = cc in absurd (omega arith)

-- the product of two 32 bit numbers fits 64 bits
pub product_fits : (a b : ℕ) → a < 2 ^ 32 → b < 2 ^ 32 → a * b < 2 ^ 64
product_fits a b ha hb =
    let a_most : a ≤ 4294967295 = omega arith in
    let b_most : b ≤ 4294967295 = omega arith in
    let product : a * b ≤ 4294967295 * 4294967295 = mul-le-mul a_most b_most in
    omega arith
