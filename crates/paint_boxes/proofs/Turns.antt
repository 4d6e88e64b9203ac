-- One styled row on rows at equal distances, and what a turn of the loop over a symmetric box's rows comes to.
-- Assumes nothing.
use Rattle.scanline.specs.Rows.{StyledRow}
use mathlib.Core.Path.{◌≡◌, refl, sym, ap, subst, ◌∙◌}
use mathlib.Core.Bool.{Bool}
use mathlib.Core.List.{List}
use Prim.Native.Nat.{ℕ, zero, suc, ◌+◌, ◌-◌, ◌*◌, ◌<◌, ◌≤◌, min}
use native.Mathlib.Omega.{arith}
use borrow.Author.Tests.{lt-ltb}
use lib.IntN.{ℤ, pos, ◌+ℤ◌}
use lib.ListN.{length}
use mir.Syntax.{w32}
use Rattle.signed.specs.Signed.{Near}
use Rattle.signed.proofs.Laws.{int, add_law, fits_by_parts}
use Rattle.corner.specs.Bounds.{wide_stroke_side}
use Rattle.figure.specs.Bounds.{wide_area_position}
use Rattle.box_columns.proofs.Searches.{by_order}
use Rattle.style.specs.declared.Style.{Style}
use Rattle.drawing.specs.Drawing.{paint_by}
use Rattle.paint_rows.specs.Rows.{wide_painted, twice_by, rows_by}
use Rattle.paint_rows.proofs.InTurn.{rows_by_alike}
use Rattle.paint_rows.proofs.Mirror.{RowsBetween, between_turn}
use Rattle.paint_boxes.specs.declared.Turn.{Turn}
use Rattle.paint_boxes.specs.Spaced.{spaced_by, SpacedNear, TurnAt}

-- ---- rows of a figure are near
pub row_near : (first : ℤ) (dy : ℕ) → Near wide_area_position first → dy ≤ wide_stroke_side → Near wide_painted (first +ℤ pos dy)
row_near first dy near few =
    let high = near.above in
    let low = near.below in
    record {
      above = omega (arith, int, add_law first (pos dy));
      below = omega (arith, int, add_law first (pos dy));
      fits = fits_by_parts w32 (first +ℤ pos dy) (omega (arith, int, add_law first (pos dy)));
    }

further : (first : ℤ) (dy n : ℕ) → first +ℤ pos dy +ℤ pos n ≡ first +ℤ pos (dy + n)
further first dy n =
    omega (arith, int, add_law first (pos dy), add_law (first +ℤ pos dy) (pos n), add_law first (pos (dy + n)))

spaced_one_by_one : (n : ℕ) (first : ℤ) (dy : ℕ) → Near wide_area_position first → dy + n ≤ wide_stroke_side
    → SpacedNear (first +ℤ pos dy) 1 n
spaced_one_by_one zero first dy near few = tt
spaced_one_by_one (suc n) first dy near few = (
  row_near first dy near (omega arith),
  subst (λ (z : ℤ). SpacedNear z 1 n) (sym (further first dy 1)) (spaced_one_by_one n first (dy + 1) near (omega arith)),
)

module _ (first : ℤ) (height pairs dy : ℕ) (near : Near wide_area_position first) (low : height ≤ wide_stroke_side)
    (half : 2 * pairs ≤ height)
    (more : dy < height - pairs) (t : Turn) (at : TurnAt height pairs dy t) where
  pub step_small : t.step ≤ wide_stroke_side
  step_small =
      by_order dy pairs (λ pair. let is = at.pair_step pair in omega (arith, is))
      (λ past. let is = at.rest_step past in omega (arith, is))

  -- the next turn's row is further down, and none of the lower rows that the pairs have
  pub turn_further : (dy < t.next) × (t.next ≤ height - pairs)
  turn_further =
      by_order dy pairs (λ pair. let is = at.pair_next pair in (omega (arith, is), omega (arith, is)))
      (λ past. let is = at.rest_next past in (omega (arith, is), omega (arith, is)))

  pair_near : dy < pairs → SpacedNear (first +ℤ pos dy) t.step t.count
  pair_near pair =
      let step = at.pair_step pair in
      subst (λ (n : ℕ). SpacedNear (first +ℤ pos dy) t.step n) (sym (at.pair_count pair)) (
        row_near first dy near (omega arith),
        (
          subst (Near wide_painted) (sym (further first dy t.step))
              (row_near first (dy + t.step) near (omega (arith, step))),
          tt,
        ),
      )

  rest_near : pairs ≤ dy → SpacedNear (first +ℤ pos dy) t.step t.count
  rest_near past =
      let count = at.rest_count past in
      subst (λ (s : ℕ). SpacedNear (first +ℤ pos dy) s t.count) (sym (at.rest_step past))
      (spaced_one_by_one t.count first dy near (omega (arith, count)))

  pub rows_near : (y : ℤ) → y ≡ first +ℤ pos dy
      → Near wide_painted y × (t.step ≤ wide_stroke_side) × SpacedNear y t.step t.count
  rows_near y is = rw is (row_near first dy near (omega arith), step_small, by_order dy pairs pair_near rest_near)

-- ---- what is painted
module _ (row : StyledRow) (style : Style) (W H : ℕ) where
  spaced_two : (y : ℤ) (step : ℕ) (canvas : List ℕ) → spaced_by row style W H y step 2 canvas
      ≡ paint_by (λ _. row) style W H (y +ℤ pos step) (paint_by (λ _. row) style W H y canvas)
  unfolding spaced_by
  spaced_two y step canvas = refl

  spaced_rows : (n : ℕ) (y : ℤ) (canvas : List ℕ) → spaced_by row style W H y 1 n canvas ≡ rows_by (λ _. row) style W H y n canvas
  unfolding spaced_by rows_by
  spaced_rows zero y canvas = refl
  spaced_rows (suc n) y canvas = spaced_rows n (y +ℤ pos 1) (paint_by (λ _. row) style W H y canvas)

-- ---- the loop that paints them: the rows that are left, painted on the canvas as it is now, make the whole
module _ (row : StyledRow) (style : Style) (W H : ℕ) (first : ℤ) (step count : ℕ) (lent : List ℕ) where
  pub record SpacedLeft (y : ℤ) (left : ℕ) (canvas : List ℕ) : Type 0 where
    pub size : length canvas ≡ W * H
    pub near : SpacedNear y step left
    pub rest : spaced_by row style W H y step left canvas ≡ spaced_by row style W H first step count lent

  pub spaced_turn : (y : ℤ) (left : ℕ) (canvas next : List ℕ) → 0 < left → length next ≡ length canvas
      → next ≡ paint_by (λ _. row) style W H y canvas → SpacedLeft y left canvas → SpacedLeft (y +ℤ pos step) (left - 1) next
  unfolding spaced_by
  spaced_turn y zero canvas next some same is l = absurd (omega arith)
  spaced_turn y (suc n) canvas next some same is l =
      let fewer : n ≡ suc n - 1 = omega arith in
      record {
        size = same ∙ l.size;
        near = subst (λ (k : ℕ). SpacedNear (y +ℤ pos step) step k) fewer l.near.1;
        rest = (λ i. spaced_by row style W H (y +ℤ pos step) step (sym fewer i) (is i)) ∙ l.rest;
      }

  pub spaced_end : (y : ℤ) (left : ℕ) (canvas : List ℕ) → left ≤ 0 → SpacedLeft y left canvas
      → canvas ≡ spaced_by row style W H first step count lent
  unfolding spaced_by
  spaced_end y zero canvas done l = l.rest
  spaced_end y (suc n) canvas done l = absurd (omega arith)

  -- the same where the rows that are done are counted
  pub counted_turn : (y z : ℤ) (done : ℕ) (canvas next : List ℕ) → done < count → z ≡ y +ℤ pos step → length next ≡ length canvas
      → next ≡ paint_by (λ _. row) style W H y canvas → SpacedLeft y (count - done) canvas → SpacedLeft z (count - (done + 1)) next
  counted_turn y z done canvas next more z_is same is l =
      let fewer : count - done - 1 ≡ count - (done + 1) = omega arith in
      rw z_is
      (subst (λ (k : ℕ). SpacedLeft (y +ℤ pos step) k next) fewer (spaced_turn y (count - done) canvas next (omega arith) same is l))

  pub counted_end : (y z : ℤ) (done : ℕ) (canvas : List ℕ) → count ≤ done → first ≡ z → SpacedLeft y (count - done) canvas
      → canvas ≡ spaced_by row style W H z step count lent
  counted_end y z done canvas all z_is l =
      spaced_end y (count - done) canvas (omega arith) l ∙ ap (λ (x : ℤ). spaced_by row style W H x step count lent) z_is

-- ---- a turn over a symmetric box's rows
rest_number : (count pairs dy : ℕ) → pairs ≤ dy → count - pairs - dy ≡ count - dy - min dy pairs
rest_number count pairs dy past = omega arith

none_number : (count pairs : ℕ) → 2 * pairs ≤ count → count - (count - pairs) - min (count - pairs) pairs ≡ 0
none_number count pairs half = omega arith

module _ (row_at : ℤ → StyledRow) (style : Style) (W H : ℕ) (first : ℤ) (count pairs : ℕ) (lent : List ℕ)
    (dy : ℕ) (canvas : List ℕ) (more : dy < count - pairs) (half : 2 * pairs ≤ count)
    (left : RowsBetween row_at style W H first count pairs lent dy canvas)
    (t : Turn) (at : TurnAt count pairs dy t) (row : StyledRow) (next : List ℕ) (same : length next ≡ length canvas)
    (row_is : row ≡ row_at (first +ℤ pos dy)) (y : ℤ) (y_is : y ≡ first +ℤ pos dy)
    (painted : next ≡ spaced_by row style W H y t.step t.count canvas) where
  is : next ≡ spaced_by row style W H (first +ℤ pos dy) t.step t.count canvas
  is = painted ∙ ap (λ (z : ℤ). spaced_by row style W H z t.step t.count canvas) y_is

  pub turn_pair : dy < pairs → row_at (first +ℤ pos (count - 1 - dy)) ≡ row_at (first +ℤ pos dy)
      → RowsBetween row_at style W H first count pairs lent t.next next
  turn_pair pair alike =
      let far : first +ℤ pos dy +ℤ pos (count - 1 - 2 * dy) ≡ first +ℤ pos (count - 1 - dy) =
      further first dy (count - 1 - 2 * dy) ∙ ap (λ (n : ℕ). first +ℤ pos n) (omega arith) in
      subst (λ (n : ℕ). RowsBetween row_at style W H first count pairs lent n next) (sym (at.pair_next pair))
      (between_turn row_at style W H first count pairs lent dy canvas more half left _ _ row next same refl far row_is (λ _. ap row_at far ∙ alike)
      (is
      ∙ (λ i. spaced_by row style W H (first +ℤ pos dy) (at.pair_step pair i) (at.pair_count pair i) canvas)
      ∙ spaced_two row style W H (first +ℤ pos dy) (count - 1 - 2 * dy) canvas
      ∙ ap (λ (b : Bool). twice_by row style W H (first +ℤ pos dy) (first +ℤ pos dy +ℤ pos (count - 1 - 2 * dy)) b canvas)
      (sym (lt-ltb dy pairs pair))))

  none_left : (y : ℤ) (n : ℕ) → n ≡ 0 → rows_by row_at style W H y n next ≡ next
  unfolding rows_by
  none_left y n none = rw none

  pub turn_rest : pairs ≤ dy → ((k : ℕ) → k < count - pairs - dy → row_at (first +ℤ pos dy +ℤ pos k) ≡ row_at (first +ℤ pos dy))
      → RowsBetween row_at style W H first count pairs lent t.next next
  turn_rest past alike =
      subst (λ (n : ℕ). RowsBetween row_at style W H first count pairs lent n next) (sym (at.rest_next past))
      (record {
        within = omega arith;
        size = same ∙ left.size;
        rest =
            none_left (first +ℤ pos (count - pairs)) (count - (count - pairs) - min (count - pairs) pairs)
            (none_number count pairs half)
            ∙ is
            ∙ (λ i. spaced_by row style W H (first +ℤ pos dy) (at.rest_step past i) (at.rest_count past i) canvas)
            ∙ spaced_rows row style W H (count - pairs - dy) (first +ℤ pos dy) canvas
            ∙ rows_by_alike row_at style W H row (count - pairs - dy) (first +ℤ pos dy) canvas (λ k l. alike k l ∙ sym row_is)
            ∙ ap (λ (n : ℕ). rows_by row_at style W H (first +ℤ pos dy) n canvas) (rest_number count pairs dy past)
            ∙ left.rest;
      })

  pub turn_kept : row_at (first +ℤ pos (count - 1 - dy)) ≡ row_at (first +ℤ pos dy)
      → (pairs ≤ dy → (k : ℕ) → k < count - pairs - dy → row_at (first +ℤ pos dy +ℤ pos k) ≡ row_at (first +ℤ pos dy))
      → RowsBetween row_at style W H first count pairs lent t.next next
  turn_kept mirrored alike = by_order dy pairs (λ pair. turn_pair pair mirrored) (λ past. turn_rest past (alike past))
