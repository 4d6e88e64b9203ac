-- An item painted whole. On a sheet with that one layer nothing is owed by an earlier layer, so each paint call is accepted
-- while rows are left, and each writes the row after the last one: the rows of `paint_rows`, in its order.
-- Assumes nothing.
use Rattle.refusal.specs.Refusal.{Checked, passed}
use mathlib.Core.Path.{◌≡◌, refl, sym, ap, ap₂, ◌∙◌}
use mathlib.Core.List.{List, [], ◌∷◌}
use Prim.Native.Nat.{ℕ, zero, suc, ◌+◌, ◌*◌, ◌≤◌, ◌<◌}
use native.Mathlib.Omega.{arith}
use lib.IntN.{ℤ, pos, ◌+ℤ◌}
use lib.ListN.{length, replicate}
use borrow.Author.Tests.{lt-leb}
use Rattle.signed.proofs.Laws.{int, add_law}
use Rattle.book.specs.Book.{Drawing, add, paint, Book, first_left, some_owes, none_left, book_answer}
use Rattle.book.specs.Book.{noted, book_after}
use Rattle.book.specs.Sheet.{State, WithinSide, paint_row, after, answers, after_all, opened}
use Rattle.book.specs.Whole.{paint_rows, SingleLayerWhole}
use Rattle.book.proofs.BookInOrder.{InOrder, empty_book_in_order}
use Rattle.book.proofs.SheetOfBook.{sheet_of, answer_is_book, canvas_after, after_is_book, next_down}
use Rattle.book.proofs.Picture.{paint_row_length}

module _ (d : Drawing) (W H : ℕ) where
  -- ---- rows written one after another
  pub paint_rows_length : (item : d.Item) (n : ℕ) (y : ℤ) (canvas : List ℕ) → length canvas ≡ W * H
      → length (paint_rows d W H item y n canvas) ≡ W * H
  unfolding paint_rows
  paint_rows_length item zero y canvas size = size
  paint_rows_length item (suc n) y canvas size =
      paint_rows_length item n (y +ℤ pos 1) (paint_row d W H item y canvas) (paint_row_length d W H item y canvas size)

  -- ---- on a sheet with one layer
  module _ (width : WithinSide d W) (height : WithinSide d H) (item : d.Item) (allowed : d.refuse item ≡ passed)
      (room : 1 ≤ d.max_layers) where
    -- the book with the one item, n rows of it painted
    abbrev only : ℕ → Book d
    only n = record { item = item; count = n } ∷ []

    only_in_order : (n : ℕ) → n ≤ d.rows item → InOrder d (only n)
    only_in_order n h =
        record { few = room; within = (record { allowed = allowed; counted_rows = h }, tt); order = (tt, tt) }

    only_paint_accepted : (n : ℕ) → n < d.rows item → book_answer d (only n) (paint 0) ≡ passed
    unfolding book_answer none_left some_owes
    only_paint_accepted n h = rw (lt-leb (d.rows item) n h)

    only_add_accepted : book_answer d [] (add item) ≡ passed
    unfolding book_answer
    only_add_accepted = rw (allowed, lt-leb d.max_layers 0 room)

    -- the sheet after an accepted call
    only_painted : (n : ℕ) (canvas : List ℕ) → n < d.rows item → length canvas ≡ W * H
        → after d W H (sheet_of d (only n) canvas) (paint 0)
        ≡ sheet_of d (only (suc n)) (paint_row d W H item (first_left d (record { item = item; count = n })) canvas)
    unfolding book_after noted canvas_after
    only_painted n canvas h size =
        after_is_book d W H width height (only n) canvas (only_in_order n (omega arith)) size (paint 0) tt
        ∙ rw (only_paint_accepted n h)

    only_added : (lent : List ℕ) → length lent ≡ W * H → after d W H (opened d lent) (add item) ≡ sheet_of d (only 0) lent
    unfolding book_after noted canvas_after
    only_added lent size =
        after_is_book d W H width height [] lent (empty_book_in_order d) size (add item) tt ∙ rw only_add_accepted

    -- the k rows that are left after n
    rest_accepted : (k n : ℕ) (canvas : List ℕ) → n + k ≡ d.rows item → length canvas ≡ W * H
        → answers d W H (sheet_of d (only n) canvas) (replicate k (paint 0)) ≡ replicate k passed
    unfolding answers
    rest_accepted zero n canvas e size = refl
    rest_accepted (suc k) n canvas e size =
        let y : ℤ = first_left d (record { item = item; count = n }) in
        let left : n < d.rows item = omega arith in
        ap₂ {C = List Checked} (λ a rest. a ∷ rest)
        (answer_is_book d W H width height (only n) canvas (only_in_order n (omega arith)) size (paint 0) tt
        ∙ only_paint_accepted n left)
        (rw (only_painted n canvas left size)
        (rest_accepted k (suc n) (paint_row d W H item y canvas) (omega arith) (paint_row_length d W H item y canvas size)))

    rest_painted : (k n : ℕ) (canvas : List ℕ) → n + k ≡ d.rows item → length canvas ≡ W * H
        → after_all d W H (sheet_of d (only n) canvas) (replicate k (paint 0))
        ≡ sheet_of d (only (d.rows item)) (paint_rows d W H item (first_left d (record { item = item; count = n })) k canvas)
    unfolding after_all paint_rows
    rest_painted zero n canvas e size =
        let whole : n ≡ d.rows item = omega arith in
        ap (λ (m : ℕ). sheet_of d (only m) canvas) whole
    rest_painted (suc k) n canvas e size =
        let y : ℤ = first_left d (record { item = item; count = n }) in
        let left : n < d.rows item = omega arith in
        let painted : List ℕ = paint_row d W H item y canvas in
        ap (λ (s : State d.Item). after_all d W H s (replicate k (paint 0))) (only_painted n canvas left size)
        ∙ rest_painted k (suc n) painted (omega arith) (paint_row_length d W H item y canvas size)
        ∙ ap (λ (z : ℤ). sheet_of d (only (d.rows item)) (paint_rows d W H item z k painted))
        (sym (next_down d (record { item = item; count = n })))

    pub single_layer_whole : (lent : List ℕ) → length lent ≡ W * H → SingleLayerWhole d W H lent item
    unfolding answers after_all
    single_layer_whole lent size =
        let first_row_lem : d.first item +ℤ pos 0 ≡ d.first item = omega (arith, int, add_law (d.first item) (pos 0)) in
        record {
          all_accepted = ap₂ {C = List Checked} (λ a rest. a ∷ rest)
              (answer_is_book d W H width height [] lent (empty_book_in_order d) size (add item) tt ∙ only_add_accepted)
              (rw (only_added lent size) (rest_accepted (d.rows item) 0 lent (omega arith) size));
          finished =
              ap (λ (s : State d.Item). after_all d W H s (replicate (d.rows item) (paint 0))) (only_added lent size)
              ∙ rest_painted (d.rows item) 0 lent (omega arith) size
              ∙ ap (λ (y : ℤ). sheet_of d (only (d.rows item)) (paint_rows d W H item y (d.rows item) lent)) first_row_lem;
        }
