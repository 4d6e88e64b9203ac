-- An ellipse that is at least as wide as high has rows: in its first row the middle is inside, since it lies at most half a
-- pixel beside the centre.
-- Assumes nothing.
use mathlib.Core.Path.{◌≡◌, refl, sym, ap, ◌∙◌}
use mathlib.Core.Bool.{Bool, true, false, cond}
use Prim.Native.Nat.{ℕ, zero, suc, ◌+◌, ◌-◌, ◌*◌, ◌/◌, ◌<◌, ◌≤◌}
use native.Mathlib.Nat.{le_refl, mul-suc, suc-mul, mul-add, mul-le-mul}
use native.Mathlib.Omega.{arith}
use borrow.Author.Tests.{lt-ltb, leb-true, leb-false, eqb-true, eqb-false}
use lib.Dec.{leb, eqb}
use Rattle.ellipse.specs.Ellipse.{threshold}
use Rattle.ellipse.specs.Relative.{gap, contains_of, below_threshold}
use Rattle.ellipse_rows.specs.Relative.{first_row_inside}
use Rattle.ellipse_rows.proofs.Rows.{first_row_by_middle}

-- ---- squares
square_small : (x : ℕ) → x ≤ 1 → x * x ≡ x
square_small zero small = refl
square_small (suc zero) small = refl
square_small (suc (suc x)) small = absurd (omega arith)

square_suc : (m : ℕ) → suc m * suc m ≡ m * m + 2 * m + 1
square_suc m = let rows = suc-mul m (suc m) in let product = mul-suc m m in omega arith

threshold_least : (h : ℕ) → h * h - h / 2 ≤ threshold h
unfolding threshold
threshold_least h = by_size (leb h 4)
  where
    by_size : (t : Bool) → h * h - h / 2 ≤ cond t (h * h - h / 2) (h * h)
    by_size true = le_refl (h * h - h / 2)
    by_size false = omega arith

-- ---- the middle of the first row
middle_small : (w : ℕ) → gap w ((w - 1) / 2) ≤ 1
middle_small w = omega arith

circle : (m x : ℕ) → x ≤ 1 → x ≤ m → x * x + m * m < threshold (suc m)
circle m x small few =
    let sum = square_small x small in
    let square = square_suc m in
    omega (arith, threshold_least (suc m))

oval : (w m x : ℕ) → suc m < w → x ≤ 1 → suc m * suc m * (x * x) + w * w * (m * m) < w * w * (suc m * suc m)
oval w m x narrow small =
    let one : x * x ≤ 1 = omega (arith, square_small x small) in
    let high : suc m * suc m * (x * x) ≤ suc m * suc m * 1 = mul-le-mul (le_refl (suc m * suc m)) one in
    let wider : suc (suc m) * suc (suc m) ≤ w * w = mul-le-mul narrow narrow in
    let larger = square_suc (suc m) in
    let parts : w * w * (suc m * suc m) ≡ w * w * (m * m) + w * w * (2 * m + 1) = product in
    let least : w * w * 1 ≤ w * w * (2 * m + 1) = mul-le-mul (le_refl (w * w)) (omega arith) in
    omega arith
  where
    product : w * w * (suc m * suc m) ≡ w * w * (m * m) + w * w * (2 * m + 1)
    product =
        let square : suc m * suc m ≡ m * m + (2 * m + 1) = omega (arith, square_suc m) in
        ap (λ (n : ℕ). w * w * n) square ∙ mul-add (w * w) (m * m) (2 * m + 1)

-- sides that are not equal
below_unless : (w h : ℕ) → h ≤ w → (w ≡ h → ⊥) → h < w
below_unless w h le other = by_order (leb w h) refl
  where
    by_order : (t : Bool) → leb w h ≡ t → h < w
    by_order true o = let ge = leb-true w h o in absurd (other (omega arith))
    by_order false o = leb-false w h o

pub wide_rows : (w h : ℕ) → 0 < h → h ≤ w → first_row_inside w h ≡ true
unfolding below_threshold contains_of
wide_rows w zero tall wide = absurd (omega arith)
wide_rows w (suc m) tall wide = sym (first_row_by_middle w (suc m) (omega arith)) ∙ inside
  where
    edge : gap (suc m) 0 ≡ m
    edge = omega arith

    by_sides : (t : Bool) → eqb w (suc m) ≡ t
        → below_threshold (contains_of w (suc m)) (gap w ((w - 1) / 2)) m ≡ true
    by_sides true e =
        let same = eqb-true w (suc m) e in
        let x : ℕ = gap w ((w - 1) / 2) in
        let below = circle m (gap w ((w - 1) / 2)) (middle_small w) (omega arith) in
        rw e (lt-ltb (1 * (x * x) + 1 * (m * m)) (threshold w) (omega (arith, ap threshold same)))
    by_sides false e =
        let other = eqb-false w (suc m) e in
        let x : ℕ = gap w ((w - 1) / 2) in
        rw e (lt-ltb (suc m * suc m * (x * x) + w * w * (m * m)) (w * w * (suc m * suc m))
        (oval w m (gap w ((w - 1) / 2)) (below_unless w (suc m) wide other) (middle_small w)))

    inside : below_threshold (contains_of w (suc m)) (gap w ((w - 1) / 2)) (gap (suc m) 0) ≡ true
    inside = ap (below_threshold (contains_of w (suc m)) (gap w ((w - 1) / 2))) edge ∙ by_sides (eqb w (suc m)) refl
