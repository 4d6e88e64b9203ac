-- An item painted whole, row by row: a canvas row among its rows is overpainted once, and any other stays. So where an item's styled
-- row off its rows sets nothing, painting it whole overpaints every row of the canvas by the styled row there.
-- Assumes nothing.
use mathlib.Core.Path.{◌≡◌, refl, sym, ap, ◌∙◌}
use mathlib.Core.List.{List}
use mathlib.Core.Bool.{Bool, true, false, cond}
use Prim.Native.Nat.{ℕ, zero, suc, ◌+◌, ◌*◌, ◌<◌}
use native.Mathlib.Nat.{mul_comm}
use native.Mathlib.Omega.{arith}
use lib.IntN.{ℤ, pos, ◌+ℤ◌}
use lib.Signed.{le_z, lt_z}
use lib.ListN.{length, take, drop, length-append, length-drop, take-append-drop}
use lib.Seq.{drop-drop, length-take-le}
use Rattle.signed.proofs.Laws.{int, add_law}
use Rattle.book.specs.Book.{Drawing, in_run, has_row}
use Rattle.book.specs.Canvas.{canvas_row}
use Rattle.book.specs.Sheet.{paint_row}
use Rattle.book.specs.Whole.{paint_rows, paint_whole, overpaint_rows}
use Rattle.book.proofs.Tests.{false_unless, tests_equal}
use Rattle.book.proofs.EntryRows.{run_true, run_holds}
use Rattle.book.proofs.CanvasRows.{canvases_equal_by_rows, rows_down, row_of_append, row_at_start, row_of_start}
use Rattle.book.proofs.Picture.{paint_row_length, paint_row_here, paint_row_other}
use Rattle.book.proofs.Whole.{paint_rows_length}

module _ (d : Drawing) (item : d.Item) (W H : ℕ) where
  -- ---- a canvas row after n rows from y were painted
  abbrev row_after : ℤ → ℕ → ℕ → List ℕ → List ℕ
  row_after y n z row = cond (in_run y (y +ℤ pos n) (pos z)) (d.over item (pos z) row) row

  -- none painted
  none_after : (y : ℤ) (z : ℕ) → in_run y (y +ℤ pos 0) (pos z) ≡ false
  none_after y z = false_unless _ (λ h. let run = run_true y (y +ℤ pos 0) (pos z) h in off run.from_start run.before_end)
    where
      off : le_z y (pos z) ≡ true → lt_z (pos z) (y +ℤ pos 0) ≡ true → ⊥
      off from before = omega (arith, int, add_law y (pos 0))

  -- one more row above: row z is y itself, or it is not
  row_not_below : (y : ℤ) (n z : ℕ) → y ≡ pos z → in_run (y +ℤ pos 1) (y +ℤ pos 1 +ℤ pos n) (pos z) ≡ false
  row_not_below y n z is = false_unless _ (λ h. off (run_true (y +ℤ pos 1) (y +ℤ pos 1 +ℤ pos n) (pos z) h).from_start)
    where
      off : le_z (y +ℤ pos 1) (pos z) ≡ true → ⊥
      off from = omega (arith, int, add_law y (pos 1))

  row_first : (y : ℤ) (n z : ℕ) → y ≡ pos z → in_run y (y +ℤ pos (suc n)) (pos z) ≡ true
  row_first y n z is =
      run_holds {a = y} {b = y +ℤ pos (suc n)} {y = pos z}
      record { from_start = omega (arith, int); before_end = omega (arith, int, add_law y (pos (suc n))) }

  row_rest : (y : ℤ) (n z : ℕ) → (pos z ≡ y → ⊥)
      → in_run (y +ℤ pos 1) (y +ℤ pos 1 +ℤ pos n) (pos z) ≡ in_run y (y +ℤ pos (suc n)) (pos z)
  row_rest y n z other = tests_equal _ _ up down
    where
      up : in_run (y +ℤ pos 1) (y +ℤ pos 1 +ℤ pos n) (pos z) ≡ true → in_run y (y +ℤ pos (suc n)) (pos z) ≡ true
      up h =
          let run = run_true (y +ℤ pos 1) (y +ℤ pos 1 +ℤ pos n) (pos z) h in
          let from = run.from_start in
          let before = run.before_end in
          run_holds {a = y} {b = y +ℤ pos (suc n)} {y = pos z}
          record {
            from_start = omega (arith, int, add_law y (pos 1));
            before_end = omega (arith, int, add_law y (pos 1), add_law (y +ℤ pos 1) (pos n), add_law y (pos (suc n)));
          }

      after_start : le_z y (pos z) ≡ true → le_z (y +ℤ pos 1) (pos z) ≡ true
      after_start from = by_order (le_z (pos z) y) refl
        where
          by_order : (t : Bool) → le_z (pos z) y ≡ t → le_z (y +ℤ pos 1) (pos z) ≡ true
          by_order true e = absurd (other (omega (arith, int)))
          by_order false e = omega (arith, int, add_law y (pos 1))

      down : in_run y (y +ℤ pos (suc n)) (pos z) ≡ true → in_run (y +ℤ pos 1) (y +ℤ pos 1 +ℤ pos n) (pos z) ≡ true
      down h =
          let run = run_true y (y +ℤ pos (suc n)) (pos z) h in
          let before = run.before_end in
          run_holds {a = y +ℤ pos 1} {b = y +ℤ pos 1 +ℤ pos n} {y = pos z}
          record {
            from_start = after_start run.from_start;
            before_end = omega (arith, int, add_law y (pos 1), add_law (y +ℤ pos 1) (pos n), add_law y (pos (suc n)));
          }

  pub paint_rows_row : (n : ℕ) (y : ℤ) (canvas : List ℕ) (z : ℕ) → length canvas ≡ W * H → z < H
      → canvas_row W z (paint_rows d W H item y n canvas) ≡ row_after y n z (canvas_row W z canvas)
  unfolding paint_rows
  paint_rows_row zero y canvas z size low = rw (none_after y z)
  paint_rows_row (suc n) y canvas z size low =
      paint_rows_row n (y +ℤ pos 1) (paint_row d W H item y canvas) z (paint_row_length d W H item y canvas size) low
      ∙ by_order (le_z y (pos z)) (le_z (pos z) y) refl refl
    where
      painted : List ℕ
      painted = paint_row d W H item y canvas

      here : y ≡ pos z → row_after (y +ℤ pos 1) n z (canvas_row W z painted) ≡ row_after y (suc n) z (canvas_row W z canvas)
      here is =
          ap (λ (t : Bool). cond t (d.over item (pos z) (canvas_row W z painted)) (canvas_row W z painted)) (row_not_below y n z is)
          ∙ ap (λ (r : ℤ). canvas_row W z (paint_row d W H item r canvas)) is
          ∙ paint_row_here d W H item z canvas size low
          ∙ ap (λ (t : Bool). cond t (d.over item (pos z) (canvas_row W z canvas)) (canvas_row W z canvas)) (sym (row_first y n z is))

      beside : (pos z ≡ y → ⊥) → row_after (y +ℤ pos 1) n z (canvas_row W z painted) ≡ row_after y (suc n) z (canvas_row W z canvas)
      beside other =
          ap (row_after (y +ℤ pos 1) n z) (paint_row_other d W H item y z canvas size low other)
          ∙ ap (λ (t : Bool). cond t (d.over item (pos z) (canvas_row W z canvas)) (canvas_row W z canvas)) (row_rest y n z other)

      by_order : (s t : Bool) → le_z y (pos z) ≡ s → le_z (pos z) y ≡ t
          → row_after (y +ℤ pos 1) n z (canvas_row W z painted) ≡ row_after y (suc n) z (canvas_row W z canvas)
      by_order true true from to = here (omega (arith, int))
      by_order true false from to = beside (λ (e : pos z ≡ y). omega (arith, int))
      by_order false t from to = beside (λ (e : pos z ≡ y). omega (arith, int))

  -- ---- a canvas row of `overpaint_rows`
  overpaint_rows_length : (n y : ℕ) (canvas : List ℕ) → length (overpaint_rows d W item y n canvas) ≡ length canvas
  unfolding overpaint_rows
  overpaint_rows_length zero y canvas = refl
  overpaint_rows_length (suc n) y canvas =
      simp (length-append, d.over_length item (pos y) (take W canvas), overpaint_rows_length n (suc y) (drop W canvas))
      (take_drop_length W canvas)
    where
      take_drop_length : (n : ℕ) (l : List ℕ) → length (take n l) + length (drop n l) ≡ length l
      take_drop_length n l = sym (length-append (take n l) (drop n l)) ∙ ap length (take-append-drop n l)

  row_of_drop : (z : ℕ) (canvas : List ℕ) → canvas_row W z (drop W canvas) ≡ canvas_row W (suc z) canvas
  unfolding canvas_row
  row_of_drop z canvas = ap (take W) (drop-drop (z * W) W canvas ∙ ap (λ (n : ℕ). drop n canvas) (sym (rows_down W z)))

  first_wide : (n y : ℕ) (canvas : List ℕ) → length canvas ≡ suc n * W → length (d.over item (pos y) (take W canvas)) ≡ W
  first_wide n y canvas size = d.over_length item (pos y) (take W canvas) ∙ length-take-le W canvas (omega (arith, size))

  overpaint_rows_row : (n y : ℕ) (canvas : List ℕ) (z : ℕ) → length canvas ≡ n * W → z < n
      → canvas_row W z (overpaint_rows d W item y n canvas) ≡ d.over item (pos (y + z)) (canvas_row W z canvas)
  unfolding overpaint_rows
  overpaint_rows_row zero y canvas z size low = absurd (omega arith)
  overpaint_rows_row (suc n) y canvas zero size low =
      row_of_start W (d.over item (pos y) (take W canvas)) (overpaint_rows d W item (suc y) n (drop W canvas)) (first_wide n y canvas size)
      ∙ ap (λ (k : ℕ). d.over item (pos k) (take W canvas)) (omega arith)
      ∙ ap (d.over item (pos (y + zero))) (sym (row_at_start W canvas))
  overpaint_rows_row (suc n) y canvas (suc z) size low =
      row_of_append W z (d.over item (pos y) (take W canvas)) (overpaint_rows d W item (suc y) n (drop W canvas))
      (first_wide n y canvas size)
      ∙ overpaint_rows_row n (suc y) (drop W canvas) z (simp length-drop (omega (arith, size))) (omega arith)
      ∙ ap (λ (k : ℕ). d.over item (pos k) (canvas_row W z (drop W canvas))) (omega arith)
      ∙ ap (d.over item (pos (y + suc z))) (row_of_drop z canvas)

  -- ---- both are the same
  module _ (off_rows : (y : ℤ) (row : List ℕ) → has_row d item y ≡ false → d.over item y row ≡ row) where
    pub whole_by_rows : (canvas : List ℕ) → length canvas ≡ W * H → paint_whole d W H item canvas ≡ overpaint_rows d W item 0 H canvas
    unfolding has_row
    whole_by_rows canvas size =
        canvases_equal_by_rows W H (paint_whole d W H item canvas) (overpaint_rows d W item 0 H canvas)
        (paint_rows_length d W H item (d.rows item) (d.first item) canvas size)
        (overpaint_rows_length H 0 canvas ∙ size)
        (λ z low.
        paint_rows_row (d.rows item) (d.first item) canvas z size low
        ∙ all_rows z (canvas_row W z canvas)
        ∙ ap (λ (k : ℕ). d.over item (pos k) (canvas_row W z canvas)) (from_top z)
        ∙ sym (overpaint_rows_row H 0 canvas z (size ∙ mul_comm W H) low))
      where
        from_top : (z : ℕ) → z ≡ 0 + z
        from_top z = omega arith

        all_rows : (z : ℕ) (row : List ℕ) → row_after (d.first item) (d.rows item) z row ≡ d.over item (pos z) row
        all_rows z row = by_test (in_run (d.first item) (d.first item +ℤ pos (d.rows item)) (pos z)) refl
          where
            by_test : (t : Bool) → in_run (d.first item) (d.first item +ℤ pos (d.rows item)) (pos z) ≡ t
                → cond t (d.over item (pos z) row) row ≡ d.over item (pos z) row
            by_test true e = refl
            by_test false e = sym (off_rows (pos z) row e)
