-- The run of an ellipse's row starts at the first inside place of the row.
-- Assumes nothing.
use Rattle.scanline.specs.Rows.{Row}
use Rattle.std.specs.Prelude.{Some, None}
use mathlib.Core.Path.{◌≡◌, refl, sym, ap, ◌∙◌}
use mathlib.Core.Bool.{Bool, true, false, false≢true}
use Prim.Native.Nat.{ℕ, ◌≤◌}
use native.Mathlib.Omega.{arith}
use lib.IntN.{ℤ, pos, ◌+ℤ◌, ◌-ℤ◌}
use lib.Signed.{le_z}
use mir.Syntax.{w32}
use mir.Val.{SFits}
use Rattle.signed.specs.Signed.{Near, floor0}
use Rattle.signed.proofs.Laws.{int, add_law, sub_law, fits_by_parts}
use Rattle.geometry.specs.Bounds.{wide_point, wide_side}
use Rattle.geometry_range.specs.declared.Range.{Range}
use Rattle.rectangle.specs.declared.Rectangle.{Rectangle}
use Rattle.scanline.specs.Places.{Placed, Place}
use Rattle.ellipse_rows.specs.EllipsePoints.{is_run, row}
use Rattle.ellipse_rows.specs.Relative.{first_inside, first_row_inside, mirrored_run}
use Rattle.ellipse_rows.proofs.Rows.{row_at, row_lacking, row_placed}

-- ---- a column of a bounded rectangle, or the one after the last, and its place
module _ (left : ℤ) (w : ℕ) (z : ℤ) (near : Near wide_point left) (small : w ≤ wide_side) (from : le_z left z ≡ true)
    (to : le_z z (left +ℤ pos w) ≡ true) where
  pub start_fits : SFits w32 z
  start_fits =
      let above = near.above in
      let below = near.below in
      fits_by_parts w32 z (omega (arith, int, add_law left (pos w)))

  pub difference_fits : SFits w32 (z -ℤ left)
  difference_fits = fits_by_parts w32 (z -ℤ left) (omega (arith, int, sub_law z left, add_law left (pos w)))

-- ---- the run of a row, else another
abbrev run_else : Range → Row → Range
run_else other (Some r) = r
run_else other None = other

module _ (area : Rectangle) (y : ℤ) (run : Range) (is : Some run ≡ row area y) where
  abbrev left : ℤ
  left = area.top_left.x

  abbrev w : ℕ
  w = area.size.width

  abbrev h : ℕ
  h = area.size.height

  not_lacking : row area y ≡ None → false ≡ true
  not_lacking e = sym (ap is_run (is ∙ e))

  pub rows_there : first_row_inside w h ≡ true
  rows_there = by_test (first_row_inside w h) refl
    where
      by_test : (t : Bool) → first_row_inside w h ≡ t → first_row_inside w h ≡ true
      by_test true e = e
      by_test false e = absurd (false≢true (not_lacking (row_lacking area y e)))

  module _ (dy : ℕ) (placed : Placed area.top_left.y h y (Some dy)) where
    pub run_first : first_inside w h dy ≡ Some (floor0 (run.start -ℤ left))
    run_first = by_place (first_inside w h dy) refl
      where
        by_place : (p : Place) → first_inside w h dy ≡ p → first_inside w h dy ≡ Some (floor0 (run.start -ℤ left))
        by_place (Some k) e =
            let start : run.start ≡ (mirrored_run left w k).start =
            ap (λ (r : Row). (run_else run r).start) (is ∙ row_placed area y dy placed rows_there ∙ ap (row_at area) e) in
            let same : k ≡ floor0 (run.start -ℤ left) = omega (arith, int, start, sub_law run.start left, add_law left (pos k)) in
            e ∙ ap Some same
        by_place None e = absurd (false≢true (not_lacking (row_placed area y dy placed rows_there ∙ ap (row_at area) e)))
