-- The run of a row, from the paper's signed columns to insets counted from the box's sides: the start is the left inset after the
-- first column, the end the right inset before the last.
-- Assumes nothing.
use Rattle.std.specs.Prelude.{Some, None}
use mathlib.Core.Path.{◌≡◌, refl, sym, ap, ◌∙◌}
use mathlib.Core.Bool.{Bool, true, false, cond}
use Prim.Native.Nat.{ℕ, ◌-◌, ◌≤◌, ◌<◌}
use native.Mathlib.Omega.{arith}
use borrow.Author.Tests.{ltb-true}
use lib.Dec.{ltb}
use lib.IntN.{ℤ, pos, ◌+ℤ◌, ◌-ℤ◌}
use Rattle.signed.proofs.Laws.{int, add_law, sub_law}
use Rattle.geometry.specs.declared.Size.{Size}
use Rattle.geometry_range.specs.Range.{contains as range_contains}
use Rattle.rectangle.specs.Rectangle.{rows}
use Rattle.geometry_range.proofs.Fields.{range_by_fields}
use Rattle.scanline.specs.Columns.{first_column, last_column, column_else, column_after_else}
use Rattle.scanline.specs.Places.{find_from, place_else0, Placed, Place}
use Rattle.scanline.specs.Points.{EndsWithin}
use Rattle.scanline.proofs.Find.{found_at}
use Rattle.scanline.proofs.Columns.{from_left, from_right, first_from_edge, last_from_edge}
use Rattle.scanline.proofs.Placed.{place_among}
pub use Rattle.corner_quadrant.proofs.SideInsets.{side_straight, side_inset_le}
use Rattle.rounded_rectangle.specs.declared.RoundedRectangle.{RoundedRectangle}
use Rattle.rounded_rectangle.specs.declared.Insets.{Insets}
use Rattle.rounded_rectangle.specs.Quadrants.{left, top, width, height, inside_top_left, inside_top_right, inside_bottom_right, inside_bottom_left}
use Rattle.rounded_rectangle.specs.RoundedRectangle.{run_start, run_end, run, row}
use Rattle.rounded_rectangle.specs.Relative.{inside_corner, inset, side_inset, row_insets, run_between}
use Rattle.rounded_rectangle.proofs.Corners.{top_left_relative, top_right_relative, bottom_left_relative, bottom_right_relative, before_end_relative, from_start_relative}

-- ---- the column that an inset stands for, on the left and on the right
start_by_place : (first : ℤ) (p : Place) → column_else first (from_left first p) ≡ first +ℤ pos (place_else0 p)
start_by_place first (Some k) = refl
start_by_place first None = omega (arith, int)

end_by_place : (test : ℕ → Bool) (first : ℤ) (n : ℕ) (p : Place) → find_from test n 0 ≡ p
    → column_after_else (first +ℤ pos n) (from_right first n p) ≡ first +ℤ pos n -ℤ pos (place_else0 p)
end_by_place test first n (Some k) e =
    let b = (found_at test n 0 k e).below in
    omega (arith, int, add_law (first +ℤ pos (n - 1 - k)) (pos 1), add_law first (pos (n - 1 - k)), add_law first (pos n))
end_by_place test first n None e = omega (arith, int)

-- a side by its corners
by_corners : (place : ℕ → ℤ) (t u : Bool) (upper lower straight : ℤ) (a b : ℕ)
    → (t ≡ true → upper ≡ place a) → (u ≡ true → lower ≡ place b) → straight ≡ place 0
    → cond t upper (cond u lower straight) ≡ place (cond t a (cond u b 0))
by_corners place true u upper lower straight a b f g h = f refl
by_corners place false true upper lower straight a b f g h = g refl
by_corners place false false upper lower straight a b f g h = h

module _ (b : RoundedRectangle) (dy : ℕ) (in_box : dy < height b) where
  abbrev below : ℕ
  below = height b - 1 - dy

  abbrev y : ℤ
  y = top b +ℤ pos dy

  -- the row counted from the box's last
  row_from_last : y ≡ top b +ℤ pos (height b - 1 - below)
  row_from_last = ap (λ (k : ℕ). top b +ℤ pos k) (omega arith)

  below_in : below < height b
  below_in = omega arith

  -- a run's start by the test of a left corner, its end by that of a right corner
  start_by_test : (radius : Size) (e : ℕ) (test : ℤ → Bool) → ((d : ℕ) → d < width b → test (left b +ℤ pos d) ≡ inside_corner radius d e)
      → column_else (left b) (first_column test (left b) (width b)) ≡ left b +ℤ pos (inset radius e (width b))
  unfolding inset
  start_by_test radius e test agree =
      ap (column_else (left b)) (first_from_edge test (λ d. inside_corner radius d e) (left b) (width b) agree)
      ∙ start_by_place (left b) (find_from (λ d. inside_corner radius d e) (width b) 0)

  end_by_test : (radius : Size) (e : ℕ) (test : ℤ → Bool)
      → ((d : ℕ) → d < width b → test (left b +ℤ pos (width b - 1 - d)) ≡ inside_corner radius d e)
      → column_after_else (left b +ℤ pos (width b)) (last_column test (left b) (width b)) ≡ left b +ℤ pos (width b) -ℤ pos
      (inset radius e (width b))
  unfolding inset
  end_by_test radius e test agree =
      ap (column_after_else (left b +ℤ pos (width b))) (last_from_edge test (λ d. inside_corner radius d e) (left b) (width b) agree)
      ∙ end_by_place (λ d. inside_corner radius d e) (left b) (width b) (find_from (λ d. inside_corner radius d e) (width b) 0) refl

  start_relative : run_start b y ≡ left b +ℤ pos (side_inset b.corners.top_left b.corners.bottom_left (height b) (width b) dy)
  unfolding run_start side_inset
  start_relative =
      let upper = b.corners.top_left in
      let lower = b.corners.bottom_left in
      rw (before_end_relative (top b) dy upper.height, from_start_relative (top b) (height b) dy lower.height in_box)
      (by_corners (λ k. left b +ℤ pos k) (ltb dy upper.height) (ltb below lower.height) _ _ _ _ _
      (λ _. start_by_test upper dy (λ x. inside_top_left b x y) (λ d _. top_left_relative b d dy))
      (λ e. start_by_test lower below (λ x. inside_bottom_left b x y)
      (λ d _. ap (inside_bottom_left b (left b +ℤ pos d)) row_from_last
      ∙ bottom_left_relative b d below below_in (omega (arith, ltb-true below lower.height e))))
      (omega (arith, int)))

  end_relative : run_end b y
      ≡ left b +ℤ pos (width b) -ℤ pos (side_inset b.corners.top_right b.corners.bottom_right (height b) (width b) dy)
  unfolding run_end side_inset
  end_relative =
      let upper = b.corners.top_right in
      let lower = b.corners.bottom_right in
      rw (before_end_relative (top b) dy upper.height, from_start_relative (top b) (height b) dy lower.height in_box)
      (by_corners (λ k. left b +ℤ pos (width b) -ℤ pos k) (ltb dy upper.height) (ltb below lower.height) _ _ _ _ _
      (λ _. end_by_test upper dy (λ x. inside_top_right b x y) (λ d dw. top_right_relative b d dy dw))
      (λ e. end_by_test lower below (λ x. inside_bottom_right b x y)
      (λ d dw. ap (inside_bottom_right b (left b +ℤ pos (width b - 1 - d))) row_from_last
      ∙ bottom_right_relative b d below dw below_in (omega (arith, ltb-true below lower.height e))))
      (omega (arith, int)))

  pub run_relative : run_between (left b) (width b) (row_insets b.corners (width b) (height b) dy) ≡ run b y
  run_relative = sym (range_by_fields start_relative end_relative)

-- the run between two insets of w columns keeps to them
pub between_within : (left : ℤ) (w : ℕ) (insets : Insets) → insets.left ≤ w → insets.right ≤ w → EndsWithin left w
    (run_between left w insets)
between_within left w insets l r =
    record {
      start_from = omega (arith, int, add_law left (pos insets.left));
      start_to = omega (arith, int, add_law left (pos insets.left), add_law left (pos w));
      end_from = omega (arith, int, add_law left (pos w), sub_law (left +ℤ pos w) (pos insets.right));
      end_to = omega (arith, int, add_law left (pos w), sub_law (left +ℤ pos w) (pos insets.right));
    }

-- ---- the ways to a row
module _ (b : RoundedRectangle) (y : ℤ) where
  pub row_out : Placed (top b) (height b) y None → None ≡ row b y
  unfolding row
  row_out h = rw h

  pub row_placed : (dy : ℕ) → Placed (top b) (height b) y (Some dy)
      → Some (run_between (left b) (width b) (row_insets b.corners (width b) (height b) dy)) ≡ row b y
  unfolding row
  row_placed dy p =
      let among : range_contains (rows b.rectangle) y ≡ true =
      ap (range_contains (rows b.rectangle)) p.0 ∙ place_among (top b) (height b) dy p.1 in
      rw (among, p.0) (ap Some (run_relative b dy p.1))
