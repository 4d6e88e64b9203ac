-- The lower half of an ellipse's rows mirrors the upper half; and rows may be painted in any order, since each sets bytes of its own.
-- Assumes nothing.
use Rattle.refusal.specs.Refusal.{passed}
use Rattle.scanline.specs.Rows.{StyledRow}
use Rattle.std.specs.Prelude.{Some, None}
use mathlib.Core.Path.{◌≡◌, refl, sym, ap, ◌∙◌}
use mathlib.Core.Bool.{Bool, true, false, cond, ◌&&◌}
use mathlib.Core.List.{List}
use Prim.Native.Nat.{ℕ, zero, suc, ◌+◌, ◌*◌, ◌-◌, ◌<◌, ◌≤◌, min}
use native.Mathlib.Omega.{arith}
use borrow.Author.Tests.{ltb-true, ltb-false}
use lib.Dec.{ltb}
use lib.IntN.{ℤ, pos, ◌+ℤ◌}
use lib.ListN.{length}
use lib.Signed.{le_z}
use Rattle.signed.proofs.Laws.{int, add_law}
use Rattle.geometry.specs.declared.Size.{Size}
use Rattle.rectangle.specs.declared.Rectangle.{Rectangle}
use Rattle.scanline.specs.Places.{find_from, Place}
use Rattle.ellipse.specs.Relative.{gap, contains_of}
use Rattle.ellipse_search.specs.Search.{column_inside}
use Rattle.ellipse_rows.specs.Relative.{first_inside, first_row_inside}
use Rattle.ellipse_styled.specs.EllipseStyled.{ellipse_styled_row}
use Rattle.ellipse_styled.specs.Relative.{runs_from}
use Rattle.ellipse_styled.proofs.Rows.{styled_lacking, styled_none, styled_found}
use Rattle.style.specs.declared.Style.{Style}
use Rattle.book.specs.Book.{Drawing}
use Rattle.book.specs.Canvas.{canvas_row}
use Rattle.book.proofs.CanvasRows.{canvases_equal_by_rows}
use Rattle.book.proofs.Picture.{paint_row_length, paint_row_here, paint_row_other}
use Rattle.canvas.specs.Canvas.{overpaint}
use Rattle.canvas.proofs.Overpaint.{overpaint_length}
use Rattle.drawing.specs.Drawing.{paint_by}
use Rattle.drawing.proofs.PaintRow.{paint_by_row}
use Rattle.paint_rows.specs.Rows.{twice_by, rows_by, Mirrored}
use Rattle.paint_rows.proofs.InTurn.{rows_by_parts}

-- ---- rows that mirror each other
module _ (area : Rectangle) (sides : Size) where
  abbrev top : ℤ
  top = area.top_left.y

  abbrev w : ℕ
  w = area.size.width

  abbrev h : ℕ
  h = area.size.height

  -- by the distance from the middle
  first_by_gap : (dy ey : ℕ) → gap h dy ≡ gap h ey → first_inside w h dy ≡ first_inside w h ey
  unfolding first_inside
  first_by_gap dy ey same = ap (λ (g : ℕ). find_from (column_inside (contains_of w h) w g) w 0) same

  row_by_gap : (dy ey : ℕ) → dy < h → ey < h → gap h dy ≡ gap h ey
      → ellipse_styled_row area sides (top +ℤ pos dy) ≡ ellipse_styled_row area sides (top +ℤ pos ey)
  row_by_gap dy ey dh eh same = by_rows (first_row_inside w h) refl
    where
      found : (p : Place) → first_inside w h dy ≡ p → first_row_inside w h ≡ true
          → ellipse_styled_row area sides (top +ℤ pos dy) ≡ ellipse_styled_row area sides (top +ℤ pos ey)
      found (Some s) is there =
          sym (styled_found area sides (top +ℤ pos dy) dy (refl, dh) there s is)
          ∙ ap (λ (g : ℕ). Some (runs_from area.top_left.x w s
          (find_from (column_inside (contains_of sides.width sides.height) w g) (w - 2 * s) s))) same
          ∙ styled_found area sides (top +ℤ pos ey) ey (refl, eh) there s (sym (first_by_gap dy ey same) ∙ is)
      found None is there =
          sym (styled_none area sides (top +ℤ pos dy) dy (refl, dh) there is)
          ∙ styled_none area sides (top +ℤ pos ey) ey (refl, eh) there (sym (first_by_gap dy ey same) ∙ is)

      by_rows : (t : Bool) → first_row_inside w h ≡ t → ellipse_styled_row area sides (top +ℤ pos dy) ≡ ellipse_styled_row area sides
          (top +ℤ pos ey)
      by_rows true there = found (first_inside w h dy) refl there
      by_rows false lacking = sym (styled_lacking area sides (top +ℤ pos dy) lacking) ∙ styled_lacking area sides (top +ℤ pos ey) lacking

  row_mirrored : (dy : ℕ) → dy < h
      → ellipse_styled_row area sides (top +ℤ pos (h - 1 - dy)) ≡ ellipse_styled_row area sides (top +ℤ pos dy)
  row_mirrored dy l = row_by_gap (h - 1 - dy) dy (omega arith) l (omega arith)

  -- the same from the area's top, for all of its rows
  pub row_mirrored_from : (y : ℤ) (count dy : ℕ) → y ≡ top → count ≡ h → dy < count
      → ellipse_styled_row area sides (y +ℤ pos (count - 1 - dy)) ≡ ellipse_styled_row area sides (y +ℤ pos dy)
  row_mirrored_from y count dy at all l = rw (at, all) (row_mirrored dy (omega (arith, all)))

  -- the same of a pair of rows, where they are all of the area's
  pub pair_mirrored : (first y z : ℤ) (count pairs dy : ℕ) → Mirrored area first count pairs → y ≡ first +ℤ pos dy
      → z ≡ first +ℤ pos (count - 1 - dy) → dy < pairs → ellipse_styled_row area sides z ≡ ellipse_styled_row area sides y
  pair_mirrored first y z count pairs dy m y_is z_is pair =
      let half = m.half in
      rw (y_is, z_is)
      (row_mirrored_from first count dy (m.from_top (omega arith)) (m.all_rows (omega arith)) (omega (arith, half, pair)))

-- ---- rows in another order
module _ (row_at : ℤ → StyledRow) (style : Style) (W H : ℕ) where
  -- the rows of one figure as a drawing, for the laws of rows put on a canvas
  abbrev one : Drawing
  one =
      record {
        Item = ℕ;
        refuse = λ _. passed;
        first = λ _. pos 0;
        rows = λ _. 0;
        over = λ _ y row. overpaint style (row_at y) row;
        over_length = λ _ y row. overpaint_length style (row_at y) row;
        max_layers = 0;
        max_side = 0;
      }

  painted_length : (y : ℤ) (canvas : List ℕ) → length canvas ≡ W * H → length (paint_by row_at style W H y canvas) ≡ W * H
  painted_length y canvas size = paint_row_length one W H 0 y canvas size

  -- whether y is row x of the canvas
  abbrev is_row : ℤ → ℕ → Bool
  is_row y x = le_z y (pos x) && le_z (pos x) y

  row_after_lem : (y : ℤ) (x : ℕ) (canvas : List ℕ) → length canvas ≡ W * H → x < H
      → canvas_row W x (paint_by row_at style W H y canvas)
      ≡ cond (is_row y x) (overpaint style (row_at (pos x)) (canvas_row W x canvas)) (canvas_row W x canvas)
  row_after_lem y x canvas size low = by_tests (le_z y (pos x)) (le_z (pos x) y) refl refl
    where
      by_tests : (s t : Bool) → le_z y (pos x) ≡ s → le_z (pos x) y ≡ t
          → canvas_row W x (paint_by row_at style W H y canvas)
          ≡ cond (s && t) (overpaint style (row_at (pos x)) (canvas_row W x canvas)) (canvas_row W x canvas)
      by_tests true true p q =
          let is : y ≡ pos x = omega (arith, int) in
          ap (λ (z : ℤ). canvas_row W x (paint_by row_at style W H z canvas)) is ∙ paint_row_here one W H 0 x canvas size low
      by_tests true false p q = paint_row_other one W H 0 y x canvas size low (λ e. omega (arith, int))
      by_tests false t p q = paint_row_other one W H 0 y x canvas size low (λ e. omega (arith, int))

  either_order : (a b : Bool) (over : List ℕ → List ℕ) (row : List ℕ)
      → cond a (over (cond b (over row) row)) (cond b (over row) row) ≡ cond b (over (cond a (over row) row)) (cond a (over row) row)
  either_order true true over row = refl
  either_order true false over row = refl
  either_order false true over row = refl
  either_order false false over row = refl

  rows_commute : (y z : ℤ) (canvas : List ℕ) → length canvas ≡ W * H
      → paint_by row_at style W H y (paint_by row_at style W H z canvas) ≡ paint_by row_at style W H z (paint_by row_at style W H y canvas)
  rows_commute y z canvas size =
      canvases_equal_by_rows W H _ _
      (painted_length y _ (painted_length z canvas size)) (painted_length z _ (painted_length y canvas size))
      (λ x low.
      let over : List ℕ → List ℕ = overpaint style (row_at (pos x)) in
      row_after_lem y x (paint_by row_at style W H z canvas) (painted_length z canvas size) low
      ∙ ap (λ (r : List ℕ). cond (is_row y x) (over r) r) (row_after_lem z x canvas size low)
      ∙ either_order (is_row y x) (is_row z x) over (canvas_row W x canvas)
      ∙ sym
      (row_after_lem z x (paint_by row_at style W H y canvas) (painted_length y canvas size) low
      ∙ ap (λ (r : List ℕ). cond (is_row z x) (over r) r) (row_after_lem y x canvas size low)))

  -- a row painted before others may be painted after them
  row_last : (n : ℕ) (y z : ℤ) (canvas : List ℕ) → length canvas ≡ W * H
      → rows_by row_at style W H y n (paint_by row_at style W H z canvas) ≡ paint_by row_at style W H z (rows_by row_at style W H y n canvas)
  unfolding rows_by
  row_last zero y z canvas size = refl
  row_last (suc n) y z canvas size =
      ap (rows_by row_at style W H (y +ℤ pos 1) n) (rows_commute y z canvas size)
      ∙ row_last n (y +ℤ pos 1) z (paint_by row_at style W H y canvas) (painted_length y canvas size)

  -- the first and the last of n + 2 rows, then those between
  pub ends_first : (n k : ℕ) (y z : ℤ) (canvas : List ℕ) → length canvas ≡ W * H → k ≡ n + 2 → z ≡ y +ℤ pos (n + 1)
      → rows_by row_at style W H (y +ℤ pos 1) n (paint_by row_at style W H z (paint_by row_at style W H y canvas))
      ≡ rows_by row_at style W H y k canvas
  unfolding rows_by
  ends_first n zero y z canvas size is at = absurd (omega (arith, is))
  ends_first n (suc k) y z canvas size is at =
      let after : List ℕ = paint_by row_at style W H y canvas in
      let last : z ≡ y +ℤ pos 1 +ℤ pos n =
      omega (arith, int, at, add_law y (pos 1), add_law (y +ℤ pos 1) (pos n), add_law y (pos (n + 1))) in
      row_last n (y +ℤ pos 1) z after (painted_length y canvas size)
      ∙ ap (λ (x : ℤ). paint_by row_at style W H x (rows_by row_at style W H (y +ℤ pos 1) n after)) last
      ∙ rows_by_parts row_at style W H n 1 k (y +ℤ pos 1) after (omega (arith, is))

-- ---- how many rows are between those that are done, of `count`: `dy` at the top, and at the bottom as many, up to `pairs`
fewer_by_two : (count pairs dy : ℕ) → dy < pairs → 2 * pairs ≤ count → count - dy - min dy pairs ≡ count - (dy + 1) - min (dy + 1) pairs + 2
fewer_by_two count pairs dy pair half =
    let here : min dy pairs ≡ dy = omega arith in
    let next : min (dy + 1) pairs ≡ dy + 1 = omega arith in
    rw (here, next) (omega arith)

last_of_them : (count pairs dy : ℕ) → dy < pairs → 2 * pairs ≤ count → count - 1 - dy ≡ dy + (count - (dy + 1) - min (dy + 1) pairs + 1)
last_of_them count pairs dy pair half =
    let next : min (dy + 1) pairs ≡ dy + 1 = omega arith in
    rw next (omega arith)

fewer_past : (count pairs dy : ℕ) → dy + pairs < count → count - dy - pairs ≡ 1 + (count - (dy + 1) - pairs)
fewer_past count pairs dy more = omega arith

fewer_by_one : (count pairs dy : ℕ) → pairs ≤ dy → dy < count - pairs → count - dy - min dy pairs ≡ 1 +
    (count - (dy + 1) - min (dy + 1) pairs)
fewer_by_one count pairs dy past more =
    let room : dy + pairs < count = omega arith in
    let here : min dy pairs ≡ pairs = omega arith in
    let next : min (dy + 1) pairs ≡ pairs = omega arith in
    rw (here, next) (fewer_past count pairs dy room)

far_row : (first : ℤ) (m dy n : ℕ) → m ≡ dy + (n + 1) → first +ℤ pos m ≡ first +ℤ pos dy +ℤ pos (n + 1)
far_row first m dy n is = omega (arith, int, is, add_law first (pos m), add_law first (pos dy), add_law (first +ℤ pos dy) (pos (n + 1)))

-- ---- the loop: the rows between those that are done, painted on the canvas as it is now, make the whole. Of `count` rows the first
-- `pairs` are painted with the last ones, from both ends inward; then those between, one after another
module _ (row_at : ℤ → StyledRow) (style : Style) (W H : ℕ) (first : ℤ) (count pairs : ℕ) (lent : List ℕ) where
  pub record RowsBetween (dy : ℕ) (canvas : List ℕ) : Type 0 where
    pub within : dy ≤ count - pairs
    pub size : length canvas ≡ W * H
    pub rest : rows_by row_at style W H (first +ℤ pos dy) (count - dy - min dy pairs) canvas ≡ rows_by row_at style W H first count lent

  further : (dy : ℕ) → first +ℤ pos (dy + 1) ≡ first +ℤ pos dy +ℤ pos 1
  further dy = omega (arith, int, add_law first (pos (dy + 1)), add_law first (pos dy), add_law (first +ℤ pos dy) (pos 1))

  module _ (dy : ℕ) (canvas : List ℕ) (more : dy < count - pairs) (half : 2 * pairs ≤ count) (left : RowsBetween dy canvas) where
    abbrev n : ℕ
    n = count - (dy + 1) - min (dy + 1) pairs

    -- a row and its mirror image
    rest_by_two : dy < pairs
        → rows_by row_at style W H (first +ℤ pos (dy + 1)) n
        (paint_by row_at style W H (first +ℤ pos (count - 1 - dy)) (paint_by row_at style W H (first +ℤ pos dy) canvas))
        ≡ rows_by row_at style W H first count lent
    rest_by_two pair =
        ap (λ (z : ℤ). rows_by row_at style W H z n
        (paint_by row_at style W H (first +ℤ pos (count - 1 - dy)) (paint_by row_at style W H (first +ℤ pos dy) canvas))) (further dy)
        ∙ ends_first row_at style W H n (count - dy - min dy pairs) (first +ℤ pos dy) (first +ℤ pos (count - 1 - dy)) canvas left.size
        (fewer_by_two count pairs dy pair half) (far_row first (count - 1 - dy) dy n (last_of_them count pairs dy pair half))
        ∙ left.rest

    -- a row by itself
    rest_by_one : pairs ≤ dy
        → rows_by row_at style W H (first +ℤ pos (dy + 1)) n (paint_by row_at style W H (first +ℤ pos dy) canvas)
        ≡ rows_by row_at style W H first count lent
    unfolding rows_by
    rest_by_one past =
        ap (λ (z : ℤ). rows_by row_at style W H z n (paint_by row_at style W H (first +ℤ pos dy) canvas)) (further dy)
        ∙ rows_by_parts row_at style W H 1 n (count - dy - min dy pairs) (first +ℤ pos dy) canvas (fewer_by_one count pairs dy past more)
        ∙ left.rest

    pub between_turn : (y z : ℤ) (row : StyledRow) (next : List ℕ) → length next ≡ length canvas → y ≡ first +ℤ pos dy
        → z ≡ first +ℤ pos (count - 1 - dy) → row ≡ row_at y → (dy < pairs → row_at z ≡ row_at y)
        → next ≡ twice_by row style W H y z (ltb dy pairs) canvas → RowsBetween (dy + 1) next
    between_turn y z row next same y_is z_is row_is alike is =
        record { within = omega arith; size = same ∙ left.size; rest = by_test (ltb dy pairs) refl is }
      where
        by_test : (t : Bool) → ltb dy pairs ≡ t → next ≡ twice_by row style W H y z t canvas
            → rows_by row_at style W H (first +ℤ pos (dy + 1)) n next ≡ rows_by row_at style W H first count lent
        by_test true e two =
            let pair = ltb-true dy pairs e in
            ap (rows_by row_at style W H (first +ℤ pos (dy + 1)) n)
            (two
            ∙ paint_by_row row_at style W H _ row _ (row_is ∙ sym (alike pair))
            ∙ ap (paint_by row_at style W H z) (paint_by_row row_at style W H canvas row _ row_is)
            ∙ (λ i. paint_by row_at style W H (z_is i) (paint_by row_at style W H (y_is i) canvas)))
            ∙ rest_by_two pair
        by_test false e one =
            ap (rows_by row_at style W H (first +ℤ pos (dy + 1)) n)
            (one ∙ paint_by_row row_at style W H canvas row _ row_is ∙ ap (λ (z : ℤ). paint_by row_at style W H z canvas) y_is)
            ∙ rest_by_one (ltb-false dy pairs e)

  no_row : (y : ℤ) (n : ℕ) (canvas : List ℕ) → n ≡ 0 → canvas ≡ rows_by row_at style W H y n canvas
  unfolding rows_by
  no_row y n canvas none = rw none

  pub between_end : (dy : ℕ) (y : ℤ) (canvas : List ℕ) → count - pairs ≤ dy → 2 * pairs ≤ count → first ≡ y → RowsBetween dy canvas
      → canvas ≡ rows_by row_at style W H y count lent
  between_end dy y canvas done half y_is left =
      let within = left.within in
      no_row (first +ℤ pos dy) (count - dy - min dy pairs) canvas (omega (arith, within)) ∙ left.rest
      ∙ ap (λ (z : ℤ). rows_by row_at style W H z count lent) y_is
