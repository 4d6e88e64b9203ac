-- The rows of a symmetric box: the fill of an upper row by one search, the lower rows mirror the upper ones, and the rows between
-- them are alike.
-- Assumes nothing.
use Rattle.scanline.specs.Rows.{Row}
use Rattle.std.specs.Prelude.{Some}
use mathlib.Core.Path.{◌≡◌, refl, sym, ap, subst, ◌∙◌}
use Prim.Native.Nat.{ℕ, ◌+◌, ◌-◌, ◌*◌, ◌≤◌, ◌<◌}
use native.Mathlib.Omega.{arith}
use lib.IntN.{ℤ, pos, ◌+ℤ◌}
use Rattle.signed.proofs.Laws.{int, add_law}
use Rattle.geometry.specs.declared.Size.{Size}
use Rattle.geometry_range.specs.declared.Range.{Range}
use Rattle.scanline.proofs.Placed.{placed_before, placed_after}
use Rattle.rounded_rectangle.specs.declared.Insets.{Insets}
use Rattle.rounded_rectangle.specs.Relative.{inset, side_inset, row_insets, run_between}
use Rattle.corner_quadrant.proofs.SideInsets.{side_by_upper, side_by_lower, side_straight}
use Rattle.rounded_rectangle.proofs.Rows.{row_placed}
use Rattle.box_columns.specs.Columns.{covered, left_out}
use Rattle.box_columns.proofs.Searches.{by_order}
use Rattle.box_columns.proofs.Skips.{covered_le}
use Rattle.box_mirrored.specs.Sides.{Between}
use Rattle.box_mirrored.proofs.Sides.{between_upper, between_lower, covered_none}
use Rattle.box_fill.specs.BoxFill.{fill_run}
use Rattle.box_fill.proofs.Rows.{fill_off_rows, fill_relative}
use Rattle.box_mirrored_fill.specs.MirroredFill.{fill_between}
use Rattle.box_mirrored_fill.proofs.MirroredFill.{fill_between_lem}
use Rattle.ellipse_styled.specs.EllipseStyled.{around_fill, styled_by}
use Rattle.styled_row.specs.StyledRow.{box_styled_row}
use Rattle.styled_box.specs.ReadyBox.{Alike}
use Rattle.styled_box.proofs.Straight.{rows_straight}
use Rattle.styled_symmetric.specs.declared.SymmetricBox.{SymmetricBox}
use Rattle.styled_symmetric.specs.SymmetricBox.{four_corners, symmetric_stroke, symmetric_fill, ReadySymmetric}

-- the inset of a side whose two corners are alike, on a row that the lower one has not, and on the row that mirrors it
side_mirrored : (r : Size) (h n dy : ℕ) → dy < h → r.height ≤ h - 1 - dy → side_inset r r h n (h - 1 - dy) ≡ side_inset r r h n dy
side_mirrored r h n dy l low =
    by_order dy r.height
    (λ in_corner.
    sym (side_by_lower r r h n (h - 1 - dy) low (omega arith))
    ∙ ap (λ (e : ℕ). inset r e n) (omega arith)
    ∙ side_by_upper r r h n dy in_corner)
    (λ past. sym (side_straight r r h n (h - 1 - dy) low (omega arith)) ∙ side_straight r r h n dy past low)

module _ (b : SymmetricBox) (ready : ReadySymmetric b) (dy : ℕ) (upper : dy + b.corner_rows < b.area.size.height) where
  abbrev top : ℤ
  top = b.area.top_left.y

  abbrev h : ℕ
  h = b.area.size.height

  abbrev r : Size
  r = b.corner.radius

  abbrev q : Size
  q = b.inner_corner.radius

  -- the fill area's left column, top row and size
  abbrev left : ℤ
  left = b.inner.top_left.x

  abbrev first : ℤ
  first = b.inner.top_left.y

  abbrev s : Size
  s = b.inner.size

  -- ---- rows that the fill area has not
  module _ (run : Range) (lacking : dy < b.border) where
    pub fill_lacking : record { start = run.end; end = run.end } ≡ fill_run (symmetric_fill b) (top +ℤ pos dy) run
    fill_lacking =
        let above = ready.above in
        fill_off_rows (symmetric_fill b) (top +ℤ pos dy) run
        (placed_before first s.height (top +ℤ pos dy) (omega (
          arith,
          int,
          above,
          add_law top (pos dy),
          add_law top (pos b.border),
        )))

    lacking_mirrored : record { start = run.end; end = run.end } ≡ fill_run (symmetric_fill b) (top +ℤ pos (h - 1 - dy)) run
    lacking_mirrored =
        let above = ready.above in
        let middle = ready.middle in
        fill_off_rows (symmetric_fill b) (top +ℤ pos (h - 1 - dy)) run
        (placed_after first s.height (top +ℤ pos (h - 1 - dy))
        (omega (
          arith,
          int,
          above,
          middle,
          add_law top (pos (h - 1 - dy)),
          add_law first (pos s.height),
          add_law top (pos b.border),
        )))

  -- ---- rows that it has
  module _ (run : Range) (has : b.border ≤ dy) (k : ℕ) (k_is : k ≡ left_out q (dy - b.border) (covered q (dy - b.border))) where
    abbrev e : ℕ
    e = dy - b.border

    in_fill : e < s.height
    in_fill = let middle = ready.middle in let rows = ready.fill_rows in omega (arith, middle, rows)

    below_corner : q.height ≤ s.height - 1 - e
    below_corner = let middle = ready.middle in let rows = ready.fill_rows in omega (arith, middle, rows)

    few : 2 * covered q e ≤ s.width
    few = let le = covered_le q e in let apart = ready.apart in omega (arith, le, apart)

    pub between : Between (four_corners q) s e k
    between =
        let none = covered_none q (s.height - 1 - e) below_corner in
        between_upper (four_corners q) s e k refl few (omega (arith, none)) k_is

    pub fill_found : fill_between left s.width run k ≡ fill_run (symmetric_fill b) (top +ℤ pos dy) run
    fill_found =
        let above = ready.above in
        let at : top +ℤ pos dy ≡ first +ℤ pos e =
        omega (arith, int, above, add_law top (pos dy), add_law first (pos e), add_law top (pos b.border)) in
        fill_between_lem (four_corners q) s e k between left run ∙ fill_relative (symmetric_fill b) (top +ℤ pos dy) run e (at, in_fill)

    -- the row that mirrors it
    mirror : ℕ
    mirror = s.height - 1 - e

    mirror_twice : e ≡ s.height - 1 - mirror
    unfolding mirror
    mirror_twice = let l = in_fill in omega arith

    between_mirrored : Between (four_corners q) s mirror k
    unfolding mirror
    between_mirrored =
        let none = covered_none q mirror below_corner in
        between_lower (four_corners q) s mirror k refl (subst (λ (d : ℕ). 2 * covered q d ≤ s.width) mirror_twice few)
        (omega (arith, none))
        (k_is ∙ ap (λ (d : ℕ). left_out q d (covered q d)) mirror_twice)

    found_mirrored : fill_between left s.width run k ≡ fill_run (symmetric_fill b) (top +ℤ pos (h - 1 - dy)) run
    unfolding mirror
    found_mirrored =
        let above = ready.above in
        let middle = ready.middle in
        let l = in_fill in
        let at : top +ℤ pos (h - 1 - dy) ≡ first +ℤ pos mirror =
        omega (
          arith,
          int,
          above,
          middle,
          add_law top (pos (h - 1 - dy)),
          add_law first (pos mirror),
          add_law top (pos b.border),
        ) in
        fill_between_lem (four_corners q) s mirror k between_mirrored left run
        ∙ fill_relative (symmetric_fill b) (top +ℤ pos (h - 1 - dy)) run mirror (at, omega arith)

  -- ---- whole rows
  fill_mirrored : (run : Range) → fill_run (symmetric_fill b) (top +ℤ pos (h - 1 - dy)) run ≡ fill_run (symmetric_fill b) (top +ℤ pos dy) run
  fill_mirrored run =
      by_order dy b.border
      (λ lacking. sym (lacking_mirrored run lacking) ∙ fill_lacking run lacking)
      (λ has. sym (found_mirrored run has _ refl) ∙ fill_found run has _ refl)

  insets_mirrored : row_insets (four_corners r) b.area.size.width h (h - 1 - dy)
      ≡ row_insets (four_corners r) b.area.size.width h dy
  insets_mirrored =
      let rows = ready.stroke_rows_lem in
      let same = side_mirrored r h b.area.size.width dy (omega (arith, upper)) (omega (arith, upper, rows)) in
      λ i. record { left = same i; right = same i }

  pub row_mirrored : box_styled_row (symmetric_stroke b) (symmetric_fill b) (top +ℤ pos (h - 1 - dy))
      ≡ box_styled_row (symmetric_stroke b) (symmetric_fill b) (top +ℤ pos dy)
  unfolding box_styled_row
  row_mirrored =
      let x = b.area.top_left.x in
      let w = b.area.size.width in
      let fill = fill_run (symmetric_fill b) in
      ap (λ (t : Row). styled_by t (fill (top +ℤ pos (h - 1 - dy)))) (sym
      (row_placed (symmetric_stroke b) (top +ℤ pos (h - 1 - dy)) (h - 1 - dy) (refl, omega (arith, upper))))
      ∙ ap (λ (k : Insets). styled_by (Some (run_between x w k)) (fill (top +ℤ pos (h - 1 - dy)))) insets_mirrored
      ∙ ap (λ (f : Range). Some (around_fill (run_between x w (row_insets (four_corners r) w h dy)) f))
      (fill_mirrored (run_between x w (row_insets (four_corners r) w h dy)))
      ∙ ap (λ (t : Row). styled_by t (fill (top +ℤ pos dy))) (row_placed (symmetric_stroke b) (top +ℤ pos dy) dy
      (refl, omega (arith, upper)))

  -- from a row on that no upper corner has, down to the lower corners, the rows are alike
  pub rows_between : b.corner_rows ≤ dy
      → Alike (box_styled_row (symmetric_stroke b) (symmetric_fill b)) (top +ℤ pos dy) (h - b.corner_rows - dy)
  rows_between past =
      let above = ready.above in
      let middle = ready.middle in
      let rows = ready.stroke_rows_lem in
      let fill_rows = ready.fill_rows in
      let n = h - b.corner_rows - dy in
      let at : top +ℤ pos dy ≡ first +ℤ pos (dy - b.border) =
      omega (
        arith,
        int,
        above,
        fill_rows,
        past,
        add_law top (pos dy),
        add_law first (pos (dy - b.border)),
        add_law top
            (pos b.border),
      ) in
      subst (Alike (box_styled_row (symmetric_stroke b) (symmetric_fill b)) (top +ℤ pos dy)) (omega arith)
      (rows_straight (symmetric_stroke b) (symmetric_fill b) (top +ℤ pos dy) dy (dy - b.border) n n (refl, omega (arith, upper))
      (at, omega (arith, middle, fill_rows, upper, past))
      (λ k p l. (
        record {
          in_box = omega (arith, upper);
          past_upper = omega (arith, rows, past);
          before_lower = omega
              (arith, rows, upper);
        },
        record { in_box = omega (arith, l); past_upper = omega (arith, rows, past); before_lower = omega (arith, rows, l) },
      ))
      (λ k p l. (
        record {
          in_box = omega (arith, middle, fill_rows, upper, past);
          past_upper = omega
              (arith, fill_rows, past);
          before_lower = omega (arith, middle, fill_rows, upper, past);
        },
        record {
          in_box = omega (arith, middle, fill_rows, l, past);
          past_upper = omega
              (arith, fill_rows, past);
          before_lower = omega (arith, middle, fill_rows, l, past);
        },
      )))
