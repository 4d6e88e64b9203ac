-- The test of a row answers as that of a point: a number is below what is left of a bound just where the sum is below the bound.
-- Assumes nothing.
use mathlib.Core.Path.{◌≡◌, sym, ◌∙◌}
use mathlib.Core.Bool.{false}
use Prim.Native.Nat.{ℕ, ◌+◌, ◌-◌, ◌*◌, ◌≤◌}
use native.Mathlib.Nat.{le_trans, mul-le-mul_left}
use native.Mathlib.Decide.{dec_le}
use native.Mathlib.Omega.{arith}
use borrow.Author.Tests.{ltb-false, lt-ltb, le-ltb}
use lib.Dec.{ltb}
use lib.IntN.{nat_abs}
use Rattle.ellipse.specs.declared.EllipseContains.{EllipseContains}
use Rattle.ellipse.specs.declared.RowContains.{RowContains}
use Rattle.ellipse.specs.Relative.{contains_of, below_threshold}
use Rattle.ellipse.specs.Row.{on_row, inside_on_row, AnswersOnRows}
use Rattle.ellipse.proofs.Distances.{square_le, inside_by_distance}

below_what_is_left : (n product bound : ℕ) → ltb n (bound - product) ≡ ltb (n + product) bound
below_what_is_left n product bound = by_order (dec_le bound (n + product))
  where
    by_order : Dec (bound ≤ n + product) → ltb n (bound - product) ≡ ltb (n + product) bound
    by_order (yes l) = le-ltb n (bound - product) (omega arith) ∙ sym (le-ltb (n + product) bound l)
    by_order (no l) = lt-ltb n (bound - product) (omega arith) ∙ sym (lt-ltb (n + product) bound (omega arith))

pub below_on_row : (c : EllipseContains) (x y : ℕ) → inside_on_row (on_row c y) x ≡ below_threshold c x y
unfolding inside_on_row on_row below_threshold
below_on_row c x y = below_what_is_left (c.x_weight * (x * x)) (c.y_weight * (y * y)) c.threshold

pub answers_on_rows : AnswersOnRows
answers_on_rows w h X Y = below_on_row (contains_of w h) (nat_abs X) (nat_abs Y) ∙ sym (inside_by_distance w h X Y)

-- farther is outside
pub farther_outside : (row : RowContains) {x x' : ℕ} → x ≤ x' → inside_on_row row x ≡ false → inside_on_row row x' ≡ false
unfolding inside_on_row
farther_outside row h e = le-ltb _ _ (le_trans (ltb-false _ _ e) (mul-le-mul_left row.x_weight (square_le h)))
