-- An ellipse's rows. From the paper's signed columns and rows to places counted from the box's corner; and since the first row is
-- the farthest from the middle, all rows have an inside column if it has one.
-- Assumes nothing.
use Rattle.scanline.specs.Rows.{Row}
use Rattle.std.specs.Prelude.{Some, None}
use mathlib.Core.Path.{◌≡◌, refl, sym, ap, ap₂, ◌∙◌}
use mathlib.Core.Bool.{Bool, true, false, cond, ◌&&◌, false≢true}
use Prim.Native.Nat.{ℕ, zero, suc, ◌-◌, ◌/◌, ◌≤◌, ◌<◌}
use native.Mathlib.Nat.{le_refl}
use native.Mathlib.Decide.{dec_le}
use native.Mathlib.Omega.{arith}
use lib.IntN.{ℤ, pos, ◌+ℤ◌, ◌-ℤ◌}
use Rattle.signed.proofs.Laws.{int, add_law, sub_law}
use Rattle.geometry.specs.declared.Size.{Size}
use Rattle.rectangle.specs.declared.Rectangle.{Rectangle}
use Rattle.geometry_range.specs.Range.{contains as range_contains}
use Rattle.rectangle.specs.Rectangle.{rows, columns}
use Rattle.geometry_range.proofs.Fields.{range_by_fields}
use Rattle.scanline.specs.Places.{find_from, is_at, Placed, Place}
use Rattle.scanline.specs.Points.{EndsWithin}
use Rattle.scanline.proofs.Find.{FoundAt, find_none, found_at, found_none}
use Rattle.scanline.proofs.Columns.{from_left, first_from_edge, column_zero}
use Rattle.scanline.proofs.Placed.{place_among}
use Rattle.ellipse.specs.declared.EllipseContains.{EllipseContains}
use Rattle.ellipse.specs.Ellipse.{inside_about}
use Rattle.ellipse_rows.specs.EllipsePoints.{run_from, scanline, is_run, has_rows, row, row_count}
use Rattle.ellipse.specs.Relative.{gap, contains_of, below_threshold}
use Rattle.ellipse_search.specs.Search.{column_inside}
use Rattle.ellipse_rows.specs.Relative.{first_inside, first_row_inside, mirrored_run}
use Rattle.ellipse.proofs.Distances.{inside_by_distance, distance_from_first, gap_middle, gap_edge, nearer_inside, no_height_outside}

-- ---- places
-- what is inside at a column is inside at the middle, on the same row and on a nearer one
middle_nearer : (c : EllipseContains) (w : ℕ) {y y' : ℕ} (k : ℕ) → y ≤ y' → column_inside c w y' k ≡ true → column_inside c w y ((w - 1) / 2)
    ≡ true
unfolding column_inside
middle_nearer c w k l e = nearer_inside c (gap_middle w k) l e

module _ (w h : ℕ) where
  -- the place found is inside
  first_inside_holds : (dy k : ℕ) → first_inside w h dy ≡ Some k → column_inside (contains_of w h) w (gap h dy) k ≡ true
  unfolding first_inside
  first_inside_holds dy k e = (found_at (column_inside (contains_of w h) w (gap h dy)) w 0 k e).holds

  -- a row has an inside column exactly where its middle is inside
  middle_inside : (dy : ℕ) → 0 < w → column_inside (contains_of w h) w (gap h dy) ((w - 1) / 2) ≡ is_at (first_inside w h dy)
  unfolding first_inside
  middle_inside dy wide = by_test (column_inside (contains_of w h) w (gap h dy) ((w - 1) / 2)) refl (find_from test w 0) refl
    where
      test : ℕ → Bool
      test = column_inside (contains_of w h) w (gap h dy)

      by_test : (b : Bool) → test ((w - 1) / 2) ≡ b → (p : Place) → find_from test w 0 ≡ p → b ≡ is_at p
      by_test true e (Some k) q = refl
      by_test true e None q = sym e ∙ found_none test w 0 q ((w - 1) / 2) (omega arith) (omega arith)
      by_test false e (Some k) q = sym e ∙ middle_nearer (contains_of w h) w k (le_refl (gap h dy)) (found_at test w 0 k q).holds
      by_test false e None q = refl

  -- a first inside column is at or before the middle, so the run from it is not empty
  pub first_inside_half : (dy k : ℕ) → first_inside w h dy ≡ Some k → (k ≤ (w - 1) / 2) × (k < w)
  unfolding first_inside
  first_inside_half dy k e = by_order (dec_le k ((w - 1) / 2))
    where
      test : ℕ → Bool
      test = column_inside (contains_of w h) w (gap h dy)

      f : FoundAt test w 0 k
      f = found_at test w 0 k e

      by_order : Dec (k ≤ (w - 1) / 2) → (k ≤ (w - 1) / 2) × (k < w)
      by_order (yes l) = let b = f.below in (l, omega arith)
      by_order (no l) =
          absurd
          (false≢true
          (sym (f.none_before ((w - 1) / 2) (omega arith) (omega arith)) ∙ middle_nearer (contains_of w h) w k (le_refl (gap h dy))
          f.holds))

  -- what is inside in the first row is inside in every row, at the same column
  pub rows_all_inside : (dy : ℕ) → dy < h → first_row_inside w h ≡ true → is_at (first_inside w h dy) ≡ true
  unfolding first_row_inside
  rows_all_inside dy l e = by_first (first_inside w h 0) refl e
    where
      by_first : (p : Place) → first_inside w h 0 ≡ p → is_at p ≡ true → is_at (first_inside w h dy) ≡ true
      by_first (Some k) q t =
          let half = first_inside_half 0 k q in
          sym (middle_inside dy (omega arith)) ∙ middle_nearer (contains_of w h) w k (gap_edge h dy l) (first_inside_holds 0 k q)
      by_first None q t = absurd (false≢true t)

  -- the one test by which the code decides
  pub first_row_by_middle : 0 < w → below_threshold (contains_of w h) (gap w ((w - 1) / 2)) (gap h 0) ≡ first_row_inside w h
  unfolding first_row_inside
  first_row_by_middle wide = unfold column_inside in middle_inside 0 wide

pub first_row_no_width : (h : ℕ) → first_row_inside 0 h ≡ false
unfolding first_row_inside first_inside find_from
first_row_no_width h = refl

pub first_row_wide : (w h : ℕ) → first_row_inside w h ≡ true → 0 < w
first_row_wide zero h e = absurd (false≢true (sym (first_row_no_width h) ∙ e))
first_row_wide (suc w) h e = omega arith

pub first_row_no_height : (w : ℕ) → first_row_inside w 0 ≡ false
unfolding first_row_inside first_inside column_inside
first_row_no_height w =
    ap is_at (find_none (λ k. below_threshold (contains_of w 0) (gap w k) (gap 0 0)) w 0 (λ i _ _. no_height_outside w (gap w i) (gap 0 0)))

-- the run from a place of w columns keeps to them
pub mirrored_within : (left : ℤ) (w k : ℕ) → k ≤ w → EndsWithin left w (mirrored_run left w k)
mirrored_within left w k l =
    record {
      start_from = omega (arith, int, add_law left (pos k));
      start_to = omega (arith, int, add_law left (pos k), add_law left (pos w));
      end_from = omega (arith, int, add_law left (pos w), sub_law (left +ℤ pos w) (pos k));
      end_to = omega (arith, int, add_law left (pos w), sub_law (left +ℤ pos w) (pos k));
    }

-- ---- from signed columns and rows to places
-- the test of the ellipse of any sides about the C of a rectangle, at its column k and row j
pub inside_about_at : (sides : Size) (e : Rectangle) (k j : ℕ)
    → inside_about sides e (e.top_left.x +ℤ pos k) (e.top_left.y +ℤ pos j)
    ≡ column_inside (contains_of sides.width sides.height) e.size.width (gap e.size.height j) k
unfolding inside_about column_inside
inside_about_at sides e k j =
    inside_by_distance _ _ _ _
    ∙ ap₂ (below_threshold (contains_of sides.width sides.height))
    (distance_from_first e.top_left.x _ e.size.width k refl)
    (distance_from_first e.top_left.y _ e.size.height j refl)

module _ (e : Rectangle) where
  abbrev left : ℤ
  left = e.top_left.x

  abbrev top : ℤ
  top = e.top_left.y

  abbrev w : ℕ
  w = e.size.width

  abbrev h : ℕ
  h = e.size.height

  -- the run from place k, and no row
  abbrev pub row_at : Place → Row
  row_at (Some k) = Some (mirrored_run left w k)
  row_at None = None

  row_by_place : (p : Place) → run_from (columns e) (from_left left p) ≡ row_at p
  row_by_place (Some k) =
      ap Some
      (range_by_fields refl
      (omega (
        arith,
        int,
        sub_law (left +ℤ pos k) left,
        add_law left (pos k),
        sub_law (left +ℤ pos w) (left +ℤ pos k -ℤ left),
        sub_law
            (left +ℤ pos w) (pos k),
      )))
  row_by_place None = refl

  pub scanline_at : (j : ℕ) → scanline e (top +ℤ pos j) ≡ row_at (first_inside w h j)
  unfolding scanline first_inside
  scanline_at j =
      ap (run_from (columns e)) (first_from_edge _ _ left w (λ k _. inside_about_at e.size e k j))
      ∙ row_by_place (find_from (column_inside (contains_of w h) w (gap h j)) w 0)

  pub has_rows_relative : has_rows e ≡ first_row_inside w h
  unfolding has_rows first_row_inside
  has_rows_relative = ap (λ (y : ℤ). is_run (scanline e y)) (column_zero top) ∙ ap is_run (scanline_at 0) ∙ by_place (first_inside w h 0)
    where
      by_place : (p : Place) → is_run (row_at p) ≡ is_at p
      by_place (Some k) = refl
      by_place None = refl

  pub row_count_relative : row_count e ≡ cond (first_row_inside w h) h 0
  unfolding row_count
  row_count_relative = ap (λ (b : Bool). cond b h 0) has_rows_relative

  -- ---- the ways to a row
  pub row_out : (y : ℤ) → Placed top h y None → row e y ≡ None
  unfolding row
  row_out y p = rw p

  pub row_lacking : (y : ℤ) → first_row_inside w h ≡ false → row e y ≡ None
  unfolding row
  row_lacking y f = rw (has_rows_relative ∙ f) (either (range_contains (rows e) y))
    where
      either : (b : Bool) → cond (b && false) (scanline e y) None ≡ None
      either true = refl
      either false = refl

  pub row_placed : (y : ℤ) (dy : ℕ) → Placed top h y (Some dy) → first_row_inside w h ≡ true → row e y ≡ row_at (first_inside w h dy)
  unfolding row
  row_placed y dy p f =
      ap (λ (z : ℤ). cond (range_contains (rows e) z && has_rows e) (scanline e z) None) p.0
      ∙ rw (place_among top h dy p.1, has_rows_relative ∙ f) (scanline_at dy)

  -- the row found, by the code's own search
  pub row_found : (y : ℤ) (dy d : ℕ) (test : EllipseContains) (p : Place) → Placed top h y (Some dy) → first_row_inside w h ≡ true
      → test ≡ contains_of w h → d ≡ gap h dy → p ≡ find_from (column_inside test w d) w 0 → row_at p ≡ row e y
  unfolding first_inside
  row_found y dy d test p placed first test_is d_is p_is =
      ap row_at (p_is ∙ (λ i. find_from (column_inside (test_is i) w (d_is i)) w 0)) ∙ sym (row_placed y dy placed first)
