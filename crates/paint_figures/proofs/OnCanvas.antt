-- Rows that the canvas lacks paint nothing: those above it can be left out at the start, those below it at the end. And a figure
-- without rows paints nothing.
-- Assumes nothing.
use Rattle.scanline.specs.Rows.{StyledRow}
use Rattle.std.specs.Prelude.{None, Option}
use mathlib.Core.Path.{◌≡◌, refl, sym, ap, ◌∙◌}
use mathlib.Core.Bool.{Bool, true, false}
use mathlib.Core.List.{List}
use Prim.Native.Nat.{ℕ, zero, suc, ◌-◌, ◌≤◌, min}
use native.Mathlib.Omega.{arith}
use borrow.Author.Tests.{leb-true, leb-false}
use lib.Dec.{leb}
use lib.IntN.{ℤ, pos, ◌+ℤ◌, ◌-ℤ◌}
use lib.Signed.{le_z, lt_z}
use Rattle.signed.specs.Signed.{floor0}
use Rattle.signed.proofs.Laws.{int, add_law, sub_law}
use Rattle.style.specs.declared.Style.{Style}
use Rattle.drawing.specs.declared.StrokeRows.{StrokeRows}
use Rattle.drawing.specs.Drawing.{styled_figure, paint_by, drawing}
use Rattle.drawing.proofs.PaintRow.{paint_by_figure, paint_by_above, paint_by_below, paint_by_lacking}
use Rattle.book.specs.Sheet.{paint_row}
use Rattle.book.specs.Whole.{paint_rows, paint_whole}
use Rattle.figure.specs.declared.Figure.{Figure}
use Rattle.shape.specs.declared.Shape.{Shape}
use Rattle.styled.specs.Styled.{stroke_area, fill_area, styled_row}
use Rattle.styled_row.specs.StyledRow.{styled_row_of_shapes}
use Rattle.styled_scan.specs.declared.StyledShape.{StyledShape}
use Rattle.styled_scan.specs.Ready.{row_of}
use Rattle.drawing.specs.Rows.{rows_of_shape, stroke_rows}
use Rattle.paint_rows.specs.Rows.{rows_by}
use Rattle.paint_figures.specs.Rows.{rows_above, visible_rows}

-- ---- a figure's rows are those of its definition
rows_by_figure : (row_at : ℤ → StyledRow) (f : Figure) (style : Style) (W H : ℕ) → ((y : ℤ) → row_at y ≡ styled_row f style y)
    → (n : ℕ) (y : ℤ) (canvas : List ℕ)
    → rows_by row_at style W H y n canvas ≡ paint_rows drawing W H (styled_figure f style) y n canvas
unfolding rows_by paint_rows
rows_by_figure row_at f style W H is zero y canvas = refl
rows_by_figure row_at f style W H is (suc n) y canvas =
    ap (rows_by row_at style W H (y +ℤ pos 1) n) (paint_by_figure row_at style W H canvas f is y)
    ∙ rows_by_figure row_at f style W H is n (y +ℤ pos 1) (paint_row drawing W H (styled_figure f style) y canvas)

module _ (row_at : ℤ → StyledRow) (style : Style) (W H : ℕ) where
  -- ---- above
  skip_above : (k n : ℕ) (y : ℤ) (canvas : List ℕ) → k ≤ n → k ≤ floor0 (pos 0 -ℤ y)
      → rows_by row_at style W H y n canvas ≡ rows_by row_at style W H (y +ℤ pos k) (n - k) canvas
  unfolding rows_by
  skip_above zero n y canvas few above =
      let same : y ≡ y +ℤ pos 0 = omega (arith, int, add_law y (pos 0)) in
      let all : n ≡ n - 0 = omega arith in
      λ i. rows_by row_at style W H (same i) (all i) canvas
  skip_above (suc k) zero y canvas few above = absurd (omega arith)
  skip_above (suc k) (suc n) y canvas few above =
      let before : lt_z y (pos 0) ≡ true = omega (arith, int, sub_law (pos 0) y) in
      let next : y +ℤ pos 1 +ℤ pos k ≡ y +ℤ pos (suc k) =
      omega (arith, int, add_law y (pos 1), add_law (y +ℤ pos 1) (pos k), add_law y (pos (suc k))) in
      let fewer : n - k ≡ suc n - suc k = omega arith in
      ap (rows_by row_at style W H (y +ℤ pos 1) n) (paint_by_above row_at style W H canvas y before)
      ∙ skip_above k n (y +ℤ pos 1) canvas (omega arith) (omega (arith, add_law y (pos 1), sub_law (pos 0) y, sub_law (pos 0) (y +ℤ pos 1)))
      ∙ (λ i. rows_by row_at style W H (next i) (fewer i) canvas)

  -- ---- below
  all_below : (n : ℕ) (y : ℤ) (canvas : List ℕ) → le_z (pos H) y ≡ true → rows_by row_at style W H y n canvas ≡ canvas
  unfolding rows_by
  all_below zero y canvas low = refl
  all_below (suc n) y canvas low =
      ap (rows_by row_at style W H (y +ℤ pos 1) n)
      (paint_by_below row_at style W H canvas y (omega (arith, int)) (omega (arith, int)))
      ∙ all_below n (y +ℤ pos 1) canvas (omega (arith, int, add_law y (pos 1)))

  cut_below : (m n : ℕ) (y : ℤ) (canvas : List ℕ) → m ≤ n → le_z (pos H) (y +ℤ pos m) ≡ true
      → rows_by row_at style W H y n canvas ≡ rows_by row_at style W H y m canvas
  unfolding rows_by
  cut_below zero n y canvas few low = all_below n y canvas (omega (arith, int, add_law y (pos 0)))
  cut_below (suc m) zero y canvas few low = absurd (omega arith)
  cut_below (suc m) (suc n) y canvas few low =
      cut_below m n (y +ℤ pos 1) (paint_by row_at style W H y canvas) (omega arith)
      (omega (arith, int, add_law y (pos 1), add_law (y +ℤ pos 1) (pos m), add_law y (pos (suc m))))

  cut_to_room : (n : ℕ) (y : ℤ) (canvas : List ℕ)
      → rows_by row_at style W H y n canvas ≡ rows_by row_at style W H y (min n (floor0 (pos H -ℤ y))) canvas
  cut_to_room n y canvas = by_room (leb n (floor0 (pos H -ℤ y))) refl
    where
      by_room : (t : Bool) → leb n (floor0 (pos H -ℤ y)) ≡ t
          → rows_by row_at style W H y n canvas ≡ rows_by row_at style W H y (min n (floor0 (pos H -ℤ y))) canvas
      by_room true e =
          let all : n ≡ min n (floor0 (pos H -ℤ y)) = omega (arith, leb-true n (floor0 (pos H -ℤ y)) e) in
          ap (λ (k : ℕ). rows_by row_at style W H y k canvas) all
      by_room false e =
          let room : min n (floor0 (pos H -ℤ y)) ≡ floor0 (pos H -ℤ y) = omega (arith, leb-false n (floor0 (pos H -ℤ y)) e) in
          cut_below (min n (floor0 (pos H -ℤ y))) n y canvas (omega arith)
          (omega (arith, int, room, sub_law (pos H) y, add_law y (pos (min n (floor0 (pos H -ℤ y))))))

  -- ---- both
  pub visible_rows_lem : (rows : StrokeRows) (canvas : List ℕ)
      → rows_by row_at style W H (visible_rows rows H).first (visible_rows rows H).count canvas
      ≡ rows_by row_at style W H rows.first rows.count canvas
  visible_rows_lem rows canvas =
      sym
      (skip_above (rows_above rows) rows.count rows.first canvas (omega arith) (omega arith)
      ∙ cut_to_room (rows.count - rows_above rows) (rows.first +ℤ pos (rows_above rows)) canvas)

  -- ---- a figure without rows
  pub rows_lacking : ((y : ℤ) → row_at y ≡ None) → (n : ℕ) (y : ℤ) (canvas : List ℕ) → canvas ≡ rows_by row_at style W H y n canvas
  unfolding rows_by
  rows_lacking none zero y canvas = refl
  rows_lacking none (suc n) y canvas =
      rows_lacking none n (y +ℤ pos 1) canvas
      ∙ ap (rows_by row_at style W H (y +ℤ pos 1) n) (sym (paint_by_lacking row_at style W H canvas y (none y)))

-- ---- the visible rows of a figure make the whole of it
module _ (row_at : ℤ → StyledRow) (f : Figure) (style : Style) (W H : ℕ) (is : (y : ℤ) → row_at y ≡ styled_row f style y) (rows : StrokeRows)
    (rows_are : rows ≡ stroke_rows f style) (canvas : List ℕ) where
  all_rows_whole : rows_by row_at style W H rows.first rows.count canvas ≡ paint_whole drawing W H (styled_figure f style) canvas
  all_rows_whole =
      rows_by_figure row_at f style W H is rows.count rows.first canvas
      ∙ ap (λ (r : StrokeRows). paint_rows drawing W H (styled_figure f style) r.first r.count canvas) rows_are

  pub visible_rows_whole : (seen : StrokeRows) → seen ≡ visible_rows rows H
      → rows_by row_at style W H seen.first seen.count canvas ≡ paint_whole drawing W H (styled_figure f style) canvas
  visible_rows_whole seen seen_are =
      ap (λ (r : StrokeRows). rows_by row_at style W H r.first r.count canvas) seen_are
      ∙ visible_rows_lem row_at style W H rows canvas
      ∙ all_rows_whole

  pub lacking_whole : ((y : ℤ) → row_at y ≡ None) → canvas ≡ paint_whole drawing W H (styled_figure f style) canvas
  lacking_whole none = rows_lacking row_at style W H none rows.count rows.first canvas ∙ all_rows_whole

-- ---- and so do those of a figure made ready
module _ (f : Figure) (style : Style) (W H : ℕ) (stroke fill : Shape) (stroke_is : stroke ≡ stroke_area f style)
    (fill_is : fill ≡ fill_area f style) (made : Option StyledShape)
    (made_is : (y : ℤ) → row_of made y ≡ styled_row_of_shapes stroke fill y)
    (rows : StrokeRows) (rows_are : rows ≡ rows_of_shape stroke) (canvas : List ℕ) where
  figure_rows : (y : ℤ) → row_of made y ≡ styled_row f style y
  figure_rows y = made_is y ∙ (λ i. styled_row_of_shapes (stroke_is i) (fill_is i) y)

  stroke_rows_are : rows ≡ stroke_rows f style
  unfolding stroke_rows
  stroke_rows_are = rows_are ∙ ap rows_of_shape stroke_is

  pub ready_rows_whole : (shape : Option StyledShape) (seen : StrokeRows) (y : ℤ) → made ≡ shape → seen ≡ visible_rows rows H
      → y ≡ seen.first → rows_by (row_of shape) style W H y seen.count canvas ≡ paint_whole drawing W H (styled_figure f style) canvas
  ready_rows_whole shape seen y shape_is seen_are y_is =
      (λ i. rows_by (row_of (sym shape_is i)) style W H (y_is i) seen.count canvas)
      ∙ visible_rows_whole (row_of made) f style W H figure_rows rows stroke_rows_are canvas seen seen_are

  pub ready_lacking_whole : made ≡ None → canvas ≡ paint_whole drawing W H (styled_figure f style) canvas
  ready_lacking_whole none =
      lacking_whole (row_of made) f style W H figure_rows rows stroke_rows_are canvas
      (λ y. ap (λ (s : Option StyledShape). row_of s y) none)
