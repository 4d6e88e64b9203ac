-- Rows painted one after another: in parts, alike, and the loop that does it.
-- Assumes nothing.
use Rattle.scanline.specs.Rows.{StyledRow}
use mathlib.Core.Path.{◌≡◌, refl, sym, ap, ◌∙◌}
use mathlib.Core.List.{List}
use Prim.Native.Nat.{ℕ, zero, suc, ◌+◌, ◌-◌, ◌*◌, ◌<◌, ◌≤◌}
use native.Mathlib.Omega.{arith}
use lib.IntN.{ℤ, pos, ◌+ℤ◌}
use lib.ListN.{length}
use Rattle.signed.proofs.Laws.{int, add_law}
use Rattle.style.specs.declared.Style.{Style}
use Rattle.drawing.specs.Drawing.{paint_by}
use Rattle.drawing.proofs.PaintRow.{paint_by_row}
use Rattle.paint_rows.specs.Rows.{rows_by}

-- ---- rows in two parts, and rows that are alike
module _ (row_at : ℤ → StyledRow) (style : Style) (W H : ℕ) where
  pub rows_by_parts : (n m k : ℕ) (y : ℤ) (canvas : List ℕ) → k ≡ n + m
      → rows_by row_at style W H (y +ℤ pos n) m (rows_by row_at style W H y n canvas) ≡ rows_by row_at style W H y k canvas
  unfolding rows_by
  rows_by_parts zero m k y canvas is =
      let same : y +ℤ pos 0 ≡ y = omega (arith, int, add_law y (pos 0)) in
      let all : m ≡ k = omega (arith, is) in
      λ i. rows_by row_at style W H (same i) (all i) canvas
  rows_by_parts (suc n) m zero y canvas is = absurd (omega (arith, is))
  rows_by_parts (suc n) m (suc k) y canvas is =
      let next : y +ℤ pos (suc n) ≡ y +ℤ pos 1 +ℤ pos n =
      omega (arith, int, add_law y (pos 1), add_law (y +ℤ pos 1) (pos n), add_law y (pos (suc n))) in
      ap (λ (z : ℤ). rows_by row_at style W H z m (rows_by row_at style W H (y +ℤ pos 1) n (paint_by row_at style W H y canvas))) next
      ∙ rows_by_parts n m k (y +ℤ pos 1) (paint_by row_at style W H y canvas) (omega (arith, is))

  pub rows_by_alike : (row : StyledRow) (n : ℕ) (y : ℤ) (canvas : List ℕ) → ((k : ℕ) → k < n → row_at (y +ℤ pos k) ≡ row)
      → rows_by (λ _. row) style W H y n canvas ≡ rows_by row_at style W H y n canvas
  unfolding rows_by
  rows_by_alike row zero y canvas alike = refl
  rows_by_alike row (suc n) y canvas alike =
      let here : y +ℤ pos 0 ≡ y = omega (arith, int, add_law y (pos 0)) in
      ap (rows_by (λ _. row) style W H (y +ℤ pos 1) n)
      (paint_by_row row_at style W H canvas row y (sym (alike 0 (omega arith)) ∙ ap row_at here))
      ∙ rows_by_alike row n (y +ℤ pos 1) (paint_by row_at style W H y canvas)
      (λ k l.
      let next : y +ℤ pos 1 +ℤ pos k ≡ y +ℤ pos (suc k) =
      omega (arith, int, add_law y (pos 1), add_law (y +ℤ pos 1) (pos k), add_law y (pos (suc k))) in
      ap row_at next ∙ alike (suc k) (omega arith))

-- ---- the loop: the rows that are left, painted on the canvas as it is now, make the whole
module _ (row_at : ℤ → StyledRow) (style : Style) (W H : ℕ) (first : ℤ) (count : ℕ) (lent : List ℕ) where
  pub record RowsLeft (dy : ℕ) (canvas : List ℕ) : Type 0 where
    pub within : dy ≤ count
    pub size : length canvas ≡ W * H
    pub rest : rows_by row_at style W H (first +ℤ pos dy) (count - dy) canvas ≡ rows_by row_at style W H first count lent

  next_row : (dy : ℕ) → first +ℤ pos (dy + 1) ≡ first +ℤ pos dy +ℤ pos 1
  next_row dy =
      omega (arith, int, add_law first (pos (dy + 1)), add_law first (pos dy), add_law (first +ℤ pos dy) (pos 1))

  one_row : (y : ℤ) (n m : ℕ) (canvas : List ℕ) → n ≡ suc m
      → rows_by row_at style W H y n canvas ≡ rows_by row_at style W H (y +ℤ pos 1) m (paint_by row_at style W H y canvas)
  unfolding rows_by
  one_row y n m canvas is = rw is

  pub rows_turn : (dy : ℕ) (y : ℤ) (canvas next : List ℕ) → dy < count → y ≡ first +ℤ pos dy → length next ≡ length canvas
      → next ≡ paint_by row_at style W H y canvas → RowsLeft dy canvas → RowsLeft (dy + 1) next
  rows_turn dy y canvas next more y_is same is left =
      let fewer : count - dy ≡ suc (count - (dy + 1)) = omega arith in
      record {
        within = omega arith;
        size = same ∙ left.size;
        rest =
            (λ i. rows_by row_at style W H (next_row dy i) (count - (dy + 1)) (is i))
            ∙ ap (λ (z : ℤ). rows_by row_at style W H (first +ℤ pos dy +ℤ pos 1) (count - (dy + 1)) (paint_by row_at style W H z canvas)) y_is
            ∙ sym (one_row (first +ℤ pos dy) (count - dy) (count - (dy + 1)) canvas fewer)
            ∙ left.rest;
      }

  -- several rows in one turn
  pub rows_turns : (dy n : ℕ) (canvas next : List ℕ) → dy < count → n ≤ count - dy → length next ≡ length canvas
      → next ≡ rows_by row_at style W H (first +ℤ pos dy) n canvas → RowsLeft dy canvas → RowsLeft (dy + n) next
  rows_turns dy n canvas next more few same is left =
      let further : first +ℤ pos (dy + n) ≡ first +ℤ pos dy +ℤ pos n =
      omega (arith, int, add_law first (pos (dy + n)), add_law first (pos dy), add_law (first +ℤ pos dy) (pos n)) in
      record {
        within = omega arith;
        size = same ∙ left.size;
        rest =
            (λ i. rows_by row_at style W H (further i) (count - (dy + n)) (is i))
            ∙ rows_by_parts row_at style W H n (count - (dy + n)) (count - dy) (first +ℤ pos dy) canvas (omega arith)
            ∙ left.rest;
      }

  -- the same where all of them are alike
  pub alike_turns : (dy n : ℕ) (y : ℤ) (row : StyledRow) (canvas next : List ℕ) → dy < count → n ≤ count - dy
      → y ≡ first +ℤ pos dy → length next ≡ length canvas → row ≡ row_at y → ((k : ℕ) → k < n → row_at (y +ℤ pos k) ≡ row_at y)
      → next ≡ rows_by (λ _. row) style W H y n canvas → RowsLeft dy canvas → RowsLeft (dy + n) next
  alike_turns dy n y row canvas next more few y_is same row_is alike is left =
      rows_turns dy n canvas next more few same
      (is ∙ rows_by_alike row_at style W H row n y canvas (λ k l. alike k l ∙ sym row_is)
      ∙ ap (λ (z : ℤ). rows_by row_at style W H z n canvas) y_is) left

  no_row : (y : ℤ) (n : ℕ) (canvas : List ℕ) → n ≡ 0 → canvas ≡ rows_by row_at style W H y n canvas
  unfolding rows_by
  no_row y n canvas none = rw none

  pub rows_end : (dy : ℕ) (y : ℤ) (canvas : List ℕ) → count ≤ dy → first ≡ y → RowsLeft dy canvas
      → canvas ≡ rows_by row_at style W H y count lent
  rows_end dy y canvas done y_is left =
      no_row (first +ℤ pos dy) (count - dy) canvas (omega arith) ∙ left.rest
      ∙ ap (λ (z : ℤ). rows_by row_at style W H z count lent) y_is
