-- The test of a point, from the paper's signed columns and rows to those counted from the box's corners, and the code's way through
-- the corners.
-- Assumes nothing.
use Rattle.std.specs.Prelude.{Some, None}
use mathlib.Core.Path.{◌≡◌, refl, sym, ap, ap₂, ◌∙◌}
use mathlib.Core.Bool.{Bool, true, false, cond, ◌&&◌, and-false}
use Prim.Native.Nat.{ℕ, ◌-◌, ◌<◌}
use native.Mathlib.Omega.{arith}
use lib.IntN.{ℤ, pos, ◌+ℤ◌}
use Rattle.geometry_range.specs.Range.{contains as range_contains}
use Rattle.rectangle.specs.Rectangle.{rows, columns}
use Rattle.scanline.specs.Places.{Placed}
use Rattle.scanline.proofs.Placed.{place_among}
use Rattle.corner_quadrant.proofs.Within.{quadrant_has_rows}
use Rattle.corner_radii.specs.declared.CornerRadii.{CornerRadii}
use Rattle.rounded_rectangle.specs.declared.RoundedRectangle.{RoundedRectangle}
use Rattle.rounded_rectangle.specs.Quadrants.{left, top, width, height, inside_top_right, inside_bottom_right, inside_bottom_left}
use Rattle.rounded_rectangle.specs.RoundedRectangle.{contains}
use Rattle.rounded_rectangle.specs.Relative.{inside_corner, in_quadrant, contains_at}
use Rattle.rounded_rectangle.proofs.Corners.{top_left_relative, top_right_relative, bottom_left_relative, bottom_right_relative, before_end_relative, from_start_relative}

-- ---- from signed columns and rows to places
-- one arm: the same test, and where it holds the same answer
same_arm : {t t' a a' b b' : Bool} → t ≡ t' → (t' ≡ true → a ≡ a') → b ≡ b' → cond t a b ≡ cond t' a' b'
same_arm {t} {t'} {a} {a'} {b} {b'} e f g = rw e (by_test t' f)
  where
    by_test : (u : Bool) → (u ≡ true → a ≡ a') → cond u a b ≡ cond u a' b'
    by_test true f = f refl
    by_test false f = g

module _ (b : RoundedRectangle) (dx dy : ℕ) (in_columns : dx < width b) (in_rows : dy < height b) where
  abbrev x : ℤ
  x = left b +ℤ pos dx

  abbrev y : ℤ
  y = top b +ℤ pos dy

  abbrev beside : ℕ
  beside = width b - 1 - dx

  abbrev below : ℕ
  below = height b - 1 - dy

  x_from_last : x ≡ left b +ℤ pos (width b - 1 - beside)
  x_from_last = ap (λ (k : ℕ). left b +ℤ pos k) (omega arith)

  y_from_last : y ≡ top b +ℤ pos (height b - 1 - below)
  y_from_last = ap (λ (k : ℕ). top b +ℤ pos k) (omega arith)

  beside_in : beside < width b
  beside_in = omega arith

  below_in : below < height b
  below_in = omega arith

  pub contains_relative : contains b x y ≡ contains_at b.corners (width b) (height b) dx dy
  unfolding contains contains_at in_quadrant
  contains_relative =
      rw (place_among (top b) (height b) dy in_rows, place_among (left b) (width b) dx in_columns)
      (same_arm (ap₂ ◌&&◌ (before_end_relative (top b) dy _) (before_end_relative (left b) dx _)) (λ _. top_left_relative b dx dy)
      (same_arm (ap₂ ◌&&◌ (before_end_relative (top b) dy _) (from_start_relative (left b) (width b) dx _ in_columns))
      (λ _. ap (λ (z : ℤ). inside_top_right b z y) x_from_last ∙ top_right_relative b beside dy beside_in)
      (same_arm (ap₂ ◌&&◌ (from_start_relative (top b) (height b) dy _ in_rows) (before_end_relative (left b) dx _))
      (λ e. ap (inside_bottom_left b x) y_from_last ∙ bottom_left_relative b dx below below_in (quadrant_has_rows below _ _ e))
      (same_arm
      (ap₂ ◌&&◌ (from_start_relative (top b) (height b) dy _ in_rows) (from_start_relative (left b) (width b) dx _ in_columns))
      (λ e. ap₂ (inside_bottom_right b) x_from_last y_from_last ∙ bottom_right_relative b beside below beside_in below_in
      (quadrant_has_rows below _ _ e))
      refl))))

module _ (b : RoundedRectangle) (x y : ℤ) where
  contains_outside : range_contains (rows b.rectangle) y && range_contains (columns b.rectangle) x ≡ false → contains b x y ≡ false
  unfolding contains
  contains_outside e = rw e

  pub contains_no_column : Placed (left b) (width b) x None → false ≡ contains b x y
  contains_no_column h = sym (contains_outside (rw h (and-false (range_contains (rows b.rectangle) y))))

  pub contains_no_row : Placed (top b) (height b) y None → false ≡ contains b x y
  contains_no_row h = sym (contains_outside (rw h))

  pub contains_placed : (dx dy : ℕ) → Placed (left b) (width b) x (Some dx) → Placed (top b) (height b) y (Some dy)
      → contains_at b.corners (width b) (height b) dx dy ≡ contains b x y
  contains_placed dx dy p q = sym (ap₂ (contains b) p.0 q.0 ∙ contains_relative b dx dy p.1 q.1)

-- ---- the code's way through the corners
module _ (c : CornerRadii) (w h dx dy : ℕ) where
  pub decided_top_left : in_quadrant c.top_left dx dy ≡ true → inside_corner c.top_left dx dy ≡ contains_at c w h dx dy
  unfolding contains_at
  decided_top_left t = rw t

  module _ (not_tl : in_quadrant c.top_left dx dy ≡ false) where
    pub decided_top_right : in_quadrant c.top_right (w - 1 - dx) dy ≡ true
        → inside_corner c.top_right (w - 1 - dx) dy ≡ contains_at c w h dx dy
    unfolding contains_at
    decided_top_right t = rw (not_tl, t)

    module _ (not_tr : in_quadrant c.top_right (w - 1 - dx) dy ≡ false) where
      pub decided_bottom_left : in_quadrant c.bottom_left dx (h - 1 - dy) ≡ true
          → inside_corner c.bottom_left dx (h - 1 - dy) ≡ contains_at c w h dx dy
      unfolding contains_at
      decided_bottom_left t = rw (not_tl, not_tr, t)

      module _ (not_bl : in_quadrant c.bottom_left dx (h - 1 - dy) ≡ false) where
        pub decided_bottom_right : in_quadrant c.bottom_right (w - 1 - dx) (h - 1 - dy) ≡ true
            → inside_corner c.bottom_right (w - 1 - dx) (h - 1 - dy) ≡ contains_at c w h dx dy
        unfolding contains_at
        decided_bottom_right t = rw (not_tl, not_tr, not_bl, t)

        pub decided_straight : in_quadrant c.bottom_right (w - 1 - dx) (h - 1 - dy) ≡ false → true ≡ contains_at c w h dx dy
        unfolding contains_at
        decided_straight t = rw (not_tl, not_tr, not_bl, t)
