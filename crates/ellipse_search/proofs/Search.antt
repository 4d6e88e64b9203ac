-- The search along a row. Up to the nearest column to the middle the test, once true, stays true, and where that column is outside
-- all are: so halving, and walking from any column, find what looking from the left would.
-- Assumes nothing.
use Rattle.std.specs.Prelude.{Some, None}
use mathlib.Core.Path.{◌≡◌, refl, sym, subst, ◌∙◌}
use mathlib.Core.Bool.{Bool, true, false}
use Prim.Native.Nat.{ℕ, ◌+◌, ◌-◌, ◌/◌, ◌≤◌, ◌<◌, min}
use native.Mathlib.Decide.{dec_le}
use native.Mathlib.Omega.{arith}
use Rattle.scanline.specs.Places.{find_from, Place}
use Rattle.scanline.proofs.Find.{FoundAt, find_at, find_none, found_at, found_none, Rising}
use Rattle.ellipse.specs.declared.EllipseContains.{EllipseContains}
use Rattle.ellipse.specs.declared.RowContains.{RowContains}
use Rattle.ellipse.specs.Relative.{gap}
use Rattle.ellipse.specs.Row.{on_row}
use Rattle.ellipse_search.specs.Search.{column_inside}
use Rattle.ellipse_search.specs.Row.{column_on_row}
use Rattle.ellipse.proofs.Distances.{gap_falls, gap_middle}
use Rattle.ellipse.proofs.Row.{below_on_row, farther_outside}

module _ (row : RowContains) (width : ℕ) where
  pub row_rises : (from m : ℕ) → m ≤ (width - 1) / 2 → Rising (column_on_row row width) from m
  unfolding column_on_row
  row_rises from m mw i j fi ij jm e = farther_outside row (gap_falls width i j ij (omega arith)) e

  module _ (from count nearest : ℕ) (is : nearest ≡ min ((width - 1) / 2) (from + count - 1)) (some : 0 < count) where
    nearest_least : (k : ℕ) → from ≤ k → k < from + count → gap width nearest ≤ gap width k
    nearest_least k fk kc = by_order (dec_le ((width - 1) / 2) (from + count - 1))
      where
        by_order : Dec ((width - 1) / 2 ≤ from + count - 1) → gap width nearest ≤ gap width k
        by_order (yes l) = let e : nearest ≡ (width - 1) / 2 = omega arith in rw e (gap_middle width k)
        by_order (no l) = gap_falls width k nearest (omega arith) (omega arith)

    pub nearest_outside : column_on_row row width nearest ≡ false → (k : ℕ) → from ≤ k → k < from + count → column_on_row row width k ≡ false
    unfolding column_on_row
    nearest_outside e k fk kc = farther_outside row (nearest_least k fk kc) e

    -- from an inside column at or before the nearest, what is found up to it is found in the whole
    pub walk_left_finds : (start : ℕ) → from ≤ start → start ≤ nearest → column_on_row row width start ≡ true
        → find_from (column_on_row row width) (start + 1 - from) from ≡ find_from (column_on_row row width) count from
    walk_left_finds start fs sn here = by_place (find_from (column_on_row row width) (start + 1 - from) from) refl
      where
        test : ℕ → Bool
        test = column_on_row row width

        by_place : (p : Place) → find_from test (start + 1 - from) from ≡ p → find_from test (start + 1 - from) from
            ≡ find_from test count from
        by_place (Some j) e =
            let f = found_at test (start + 1 - from) from j e in
            let b = f.below in
            e ∙ sym (find_at test count from j f.from (omega arith) f.none_before f.holds)
        by_place None e =
            let out = found_none test (start + 1 - from) from e start fs (omega arith) in
            let z : ◌≡◌ {A = Bool} true false = sym here ∙ out in
            let n : ◌≡◌ {A = ℕ} 0 1 = cc in
            absurd (omega arith)

    -- after an outside column, what is found up to the nearest is found in the whole
    pub walk_right_finds : (start : ℕ) → from ≤ start → start ≤ nearest → column_on_row row width start ≡ false
        → find_from (column_on_row row width) (nearest - start) (start + 1) ≡ find_from (column_on_row row width) count from
    walk_right_finds start fs sn here = by_place (find_from test (nearest - start) (start + 1)) refl
      where
        test : ℕ → Bool
        test = column_on_row row width

        before_start : (i : ℕ) → from ≤ i → i ≤ start → test i ≡ false
        before_start i fi is' = row_rises from nearest (omega arith) i start fi is' sn here

        by_place : (p : Place) → find_from test (nearest - start) (start + 1) ≡ p → find_from test (nearest - start) (start + 1)
            ≡ find_from test count from
        by_place (Some j) e =
            let f = found_at test (nearest - start) (start + 1) j e in
            let l = f.from in
            let b = f.below in
            e ∙ sym (find_at test count from j (omega arith) (omega arith) (λ i fi ij. up_to i fi ij f (dec_le i start)) f.holds)
          where
            up_to : (i : ℕ) → from ≤ i → i < j → FoundAt test (nearest - start) (start + 1) j → Dec (i ≤ start) → test i ≡ false
            up_to i fi ij f (yes l) = before_start i fi l
            up_to i fi ij f (no l) = f.none_before i (omega arith) ij
        by_place None e = e ∙ sym (find_none test count from (nearest_outside (at_nearest (dec_le nearest start))))
          where
            at_nearest : Dec (nearest ≤ start) → test nearest ≡ false
            at_nearest (yes l) = before_start nearest (omega arith) l
            at_nearest (no l) = found_none test (nearest - start) (start + 1) e nearest (omega arith) (omega arith)

-- ---- on each column the test of the row answers as the test of the point there
module _ (c : EllipseContains) (width y : ℕ) where
  column_on_row_lem : column_on_row (on_row c y) width ≡ column_inside c width y
  unfolding column_on_row column_inside
  column_on_row_lem i k = below_on_row c (gap width k) y i

  -- so a search by the test of the row finds what the promises say
  pub finds_on_row : (row : RowContains) → row ≡ on_row c y → (count from : ℕ)
      → find_from (column_on_row row width) count from ≡ find_from (column_inside c width y) count from
  finds_on_row row e count from = (λ i. find_from (column_on_row (e i) width) count from) ∙ (λ i. find_from (column_on_row_lem i) count from)

  pub columns_rise : (from m : ℕ) → m ≤ (width - 1) / 2 → Rising (column_inside c width y) from m
  columns_rise from m mw = subst (λ (test : ℕ → Bool). Rising test from m) column_on_row_lem (row_rises (on_row c y) width from m mw)
