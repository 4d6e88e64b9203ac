-- The styled row of an ellipse by places: the fill's search over signed columns is one over places from s on, since the test at a
-- column depends on its distance from the middle alone.
-- Assumes nothing.
use Rattle.scanline.specs.Rows.{Row}
use Rattle.std.specs.Prelude.{Some, None}
use mathlib.Core.Path.{◌≡◌, refl, sym, ap, ◌∙◌}
use mathlib.Core.Bool.{true, false}
use Prim.Native.Nat.{ℕ, ◌-◌, ◌*◌, ◌≤◌, ◌<◌}
use native.Mathlib.Omega.{arith}
use lib.IntN.{ℤ, pos, ◌+ℤ◌, ◌-ℤ◌}
use Rattle.signed.proofs.Laws.{int, add_law, sub_law}
use Rattle.geometry.specs.declared.Size.{Size}
use Rattle.rectangle.specs.declared.Rectangle.{Rectangle}
use Rattle.scanline.specs.Columns.{Column, first_column}
use Rattle.scanline.specs.Places.{find_from, Placed, Place}
use Rattle.scanline.specs.Points.{run_length}
use Rattle.scanline.proofs.Columns.{from_left, first_from_left}
use Rattle.ellipse.specs.declared.EllipseContains.{EllipseContains}
use Rattle.ellipse.specs.Ellipse.{inside_about}
use Rattle.ellipse.specs.Relative.{gap, contains_of}
use Rattle.ellipse_search.specs.Search.{column_inside}
use Rattle.ellipse_rows.specs.Relative.{first_inside, first_row_inside, mirrored_run}
use Rattle.ellipse_rows.proofs.Rows.{inside_about_at, row_at, row_lacking, first_inside_half}
use Rattle.ellipse_rows.proofs.Rows.{row_out, row_placed}
use Rattle.ellipse_styled.specs.EllipseStyled.{around_fill, styled_by, fill_from, ellipse_fill, ellipse_styled_row}
use Rattle.ellipse_styled.specs.Relative.{runs_from}
use Rattle.ellipse_styled.proofs.Fields.{scanline_by_ends}

module _ (area : Rectangle) (sides : Size) where
  abbrev left : ℤ
  left = area.top_left.x

  abbrev top : ℤ
  top = area.top_left.y

  abbrev w : ℕ
  w = area.size.width

  abbrev h : ℕ
  h = area.size.height

  -- the fill around, by the place where it starts
  runs_by_place : (s : ℕ) (p : Place) → s ≤ w → around_fill (mirrored_run left w s) (fill_from (mirrored_run left w s) (from_left left p))
      ≡ runs_from left w s p
  runs_by_place s (Some c) l =
      let end : left +ℤ pos w -ℤ pos s -ℤ (left +ℤ pos c -ℤ (left +ℤ pos s)) ≡ left +ℤ pos w -ℤ pos c =
      omega (
        arith,
        int,
        add_law left (pos w),
        add_law left (pos c),
        add_law left (pos s),
        sub_law (left +ℤ pos w) (pos s),
        sub_law (left +ℤ pos w) (pos c),
        sub_law (left +ℤ pos c) (left +ℤ pos s),
        sub_law (left +ℤ pos w -ℤ pos s) (left +ℤ pos c -ℤ (left +ℤ pos s)),
      ) in
      scanline_by_ends refl refl refl end end refl
  runs_by_place s None l = refl

  -- the run from s has w − 2s columns
  run_length_mirrored : (s : ℕ) → 2 * s < w → run_length (mirrored_run left w s) ≡ w - 2 * s
  run_length_mirrored s l =
      omega (
        arith,
        add_law left (pos w),
        add_law left (pos s),
        sub_law (left +ℤ pos w) (pos s),
        sub_law (left +ℤ pos w -ℤ pos s)
            (left +ℤ pos s),
      )

  module _ (y : ℤ) where
    pub styled_out : Placed top h y None → None ≡ ellipse_styled_row area sides y
    unfolding ellipse_styled_row
    styled_out p = ap (λ (r : Row). styled_by r (ellipse_fill sides area y)) (sym (row_out area y p))

    pub styled_lacking : first_row_inside w h ≡ false → None ≡ ellipse_styled_row area sides y
    unfolding ellipse_styled_row
    styled_lacking f = ap (λ (r : Row). styled_by r (ellipse_fill sides area y)) (sym (row_lacking area y f))

    module _ (dy : ℕ) (placed : Placed top h y (Some dy)) (rows_there : first_row_inside w h ≡ true) where
      -- the row by its place
      by_row : ellipse_styled_row area sides y ≡ styled_by (row_at area (first_inside w h dy)) (ellipse_fill sides area y)
      unfolding ellipse_styled_row
      by_row = ap (λ (r : Row). styled_by r (ellipse_fill sides area y)) (row_placed area y dy placed rows_there)

      pub styled_none : first_inside w h dy ≡ None → None ≡ ellipse_styled_row area sides y
      styled_none e = sym (by_row ∙ ap (λ (p : Place). styled_by (row_at area p) (ellipse_fill sides area y)) e)

      pub styled_found : (s : ℕ) → first_inside w h dy ≡ Some s
          → Some (runs_from left w s (find_from (column_inside (contains_of sides.width sides.height) w (gap h dy)) (w - 2 * s) s))
          ≡ ellipse_styled_row area sides y
      styled_found s e =
          let half = first_inside_half w h dy s e in
          let test = column_inside (contains_of sides.width sides.height) w (gap h dy) in
          sym
          (by_row
          ∙ ap (λ (p : Place). styled_by (row_at area p) (ellipse_fill sides area y)) e
          ∙ ap (λ (c : Column). Some (around_fill (mirrored_run left w s) (fill_from (mirrored_run left w s) c)))
          (ap (first_column (λ x. inside_about sides area x y) (left +ℤ pos s)) (run_length_mirrored s (omega arith))
          ∙ first_from_left (λ x. inside_about sides area x y) test left (w - 2 * s) s
          (λ k _ _. ap (inside_about sides area (left +ℤ pos k)) placed.0 ∙ inside_about_at sides area k dy))
          ∙ ap Some (runs_by_place s (find_from test (w - 2 * s) s) (omega arith)))

-- the place found by the code's own search
pub first_inside_found : (w h dy d : ℕ) (test : EllipseContains) (p : Place) → test ≡ contains_of w h → d ≡ gap h dy
    → p ≡ find_from (column_inside test w d) w 0 → first_inside w h dy ≡ p
unfolding first_inside
first_inside_found w h dy d test p test_is d_is p_is = sym (p_is ∙ (λ i. find_from (column_inside (test_is i) w (d_is i)) w 0))
