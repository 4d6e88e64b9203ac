-- The columns that a corner leaves out are not contained, as far as no corner before it in `contains_at` has them.
-- Assumes nothing.
use Rattle.std.specs.Prelude.{Some, None}
use mathlib.Core.Path.{◌≡◌, refl, sym, ◌∙◌}
use mathlib.Core.Bool.{Bool, true, false, cond, ◌&&◌}
use Prim.Native.Nat.{ℕ, ◌-◌, ◌≤◌, ◌<◌, max}
use native.Mathlib.Omega.{arith}
use borrow.Author.Tests.{lt-ltb, le-ltb, ltb-true}
use lib.Dec.{ltb}
use Rattle.geometry.specs.declared.Size.{Size}
use Rattle.scanline.specs.Places.{find_from, Place}
use Rattle.scanline.proofs.Find.{found_at, found_none}
use Rattle.corner_radii.specs.declared.CornerRadii.{CornerRadii}
use Rattle.rounded_rectangle.specs.Relative.{inside_corner, in_quadrant}
use Rattle.rounded_rectangle.proofs.Contains.{decided_top_left, decided_top_right, decided_bottom_left, decided_bottom_right}
use Rattle.box_columns.specs.Columns.{covered, place_else, left_out, NoneBefore, contained_from_left, contained_from_right}

-- ---- the columns that a quadrant covers
in_quadrant_is : (r : Size) (d e : ℕ) → in_quadrant r d e ≡ ltb d (covered r e)
unfolding in_quadrant covered
in_quadrant_is r d e = by_row (ltb e r.height)
  where
    by_row : (t : Bool) → t && ltb d r.width ≡ ltb d (cond t r.width 0)
    by_row true = refl
    by_row false = sym (le-ltb d 0 (omega arith))

pub in_quadrant_lem : (r : Size) (d e : ℕ) → d < covered r e → in_quadrant r d e ≡ true
in_quadrant_lem r d e l = in_quadrant_is r d e ∙ lt-ltb _ _ l

pub not_in_quadrant : (r : Size) (d e : ℕ) → covered r e ≤ d → in_quadrant r d e ≡ false
not_in_quadrant r d e l = in_quadrant_is r d e ∙ le-ltb _ _ l

pub covered_row : (r : Size) (e : ℕ) → 0 < covered r e → e < r.height
unfolding covered
covered_row r e = by_row (ltb e r.height) (ltb-true e r.height)
  where
    by_row : (t : Bool) → (t ≡ true → e < r.height) → 0 < cond t r.width 0 → e < r.height
    by_row true f p = f refl
    by_row false f p = absurd (omega arith)

pub covered_le : (r : Size) (e : ℕ) → covered r e ≤ r.width
unfolding covered
covered_le r e = by_row (ltb e r.height)
  where
    by_row : (t : Bool) → cond t r.width 0 ≤ r.width
    by_row true = omega arith
    by_row false = omega arith

-- ---- the columns that a corner leaves out
module _ (radius : Size) (e n : ℕ) where
  pub left_out_none : n ≡ 0 → 0 ≡ left_out radius e n
  unfolding left_out find_from
  left_out_none z = rw z

  -- they are among the n, and outside
  left_out_outside : (d : ℕ) → d < left_out radius e n → (d < n) × (inside_corner radius d e ≡ false)
  unfolding left_out
  left_out_outside d = by_answer (find_from (λ d. inside_corner radius d e) n 0) refl
    where
      by_answer : (p : Place) → find_from (λ d. inside_corner radius d e) n 0 ≡ p → d < place_else n p
          → (d < n) × (inside_corner radius d e ≡ false)
      by_answer (Some k) found l =
          let f = found_at (λ d. inside_corner radius d e) n 0 k found in
          let b = f.below in
          (omega arith, f.none_before d (omega arith) l)
      by_answer None found l = (l, found_none (λ d. inside_corner radius d e) n 0 found d (omega arith) (omega arith))

-- ---- so the box does not contain them, where no corner that comes before has them
module _ (c : CornerRadii) (s : Size) (dy : ℕ) where
  abbrev w : ℕ
  w = s.width

  abbrev below : ℕ
  below = s.height - 1 - dy

  abbrev by_top_left : ℕ
  by_top_left = covered c.top_left dy

  abbrev by_top_right : ℕ
  by_top_right = covered c.top_right dy

  abbrev by_bottom_left : ℕ
  by_bottom_left = covered c.bottom_left below

  abbrev by_bottom_right : ℕ
  by_bottom_right = covered c.bottom_right below

  module _ (r : ℕ) where
    pub top_left_skips : r ≡ left_out c.top_left dy by_top_left → NoneBefore (contained_from_left c s dy) r
    top_left_skips is dx l =
        let out = left_out_outside c.top_left dy by_top_left dx (rw is at l) in
        sym (decided_top_left c w s.height dx dy (in_quadrant_lem _ _ _ out.0)) ∙ out.1

    module _ (n : ℕ) where
      pub bottom_left_skips : by_top_left ≤ 0 → n ≤ by_bottom_left → n ≤ w - by_top_right
          → r ≡ left_out c.bottom_left below n → NoneBefore (contained_from_left c s dy) r
      bottom_left_skips tl bl tr is dx l =
          let out = left_out_outside c.bottom_left below n dx (rw is at l) in
          let in_n = out.0 in
          let not_tl = not_in_quadrant c.top_left dx dy (omega arith) in
          let not_tr = not_in_quadrant c.top_right (w - 1 - dx) dy (omega arith) in
          sym (decided_bottom_left c w s.height dx dy not_tl not_tr (in_quadrant_lem _ _ _ (omega arith))) ∙ out.1

      -- from the right edge: column w − 1 − k, seen from there, is k again
      pub top_right_skips : n ≤ by_top_right → n ≤ w - by_top_left → r ≡ left_out c.top_right dy n
          → NoneBefore (contained_from_right c s dy) r
      top_right_skips tr tl is k l =
          let out = left_out_outside c.top_right dy n k (rw is at l) in
          let in_n = out.0 in
          let back : w - 1 - (w - 1 - k) ≡ k = omega arith in
          let not_tl = not_in_quadrant c.top_left (w - 1 - k) dy (omega arith) in
          sym (decided_top_right c w s.height (w - 1 - k) dy not_tl (rw back (in_quadrant_lem _ _ _ (omega arith)))) ∙ rw back out.1

      pub bottom_right_skips : by_top_right ≤ 0 → n ≤ by_bottom_right → n ≤ w - max by_top_left by_bottom_left
          → r ≡ left_out c.bottom_right below n → NoneBefore (contained_from_right c s dy) r
      bottom_right_skips tr br bl is k l =
          let out = left_out_outside c.bottom_right below n k (rw is at l) in
          let in_n = out.0 in
          let back : w - 1 - (w - 1 - k) ≡ k = omega arith in
          let not_tl = not_in_quadrant c.top_left (w - 1 - k) dy (omega arith) in
          let not_tr = not_in_quadrant c.top_right (w - 1 - (w - 1 - k)) dy (omega arith) in
          let not_bl = not_in_quadrant c.bottom_left (w - 1 - k) below (omega arith) in
          sym (decided_bottom_right c w s.height (w - 1 - k) dy not_tl not_tr not_bl (rw back (in_quadrant_lem _ _ _ (omega arith))))
          ∙ rw back out.1
