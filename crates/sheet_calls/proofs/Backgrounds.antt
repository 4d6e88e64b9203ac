-- Which lists demand 3 speaks of: those run with the canvas as first lent for their background, and those without removals. In
-- such a list each removal, if there is one, has that canvas for its background.
-- Assumes nothing.
use mathlib.Core.Path.{◌≡◌, refl}
use mathlib.Core.Bool.{Bool, true, false, cond, ◌&&◌}
use mathlib.Core.List.{List}
use Prim.Native.Nat.{ℕ, zero, suc, ◌+◌, ◌%◌, ◌≤◌, ◌<◌}
use native.Mathlib.Omega.{arith}
use lib.Dec.{eqb}
use lib.IntN.{ℤ, pos}
use lib.ListN.{length}
use lib.Signed.{le_z}
use Rattle.signed.specs.Signed.{floor0}
use Rattle.signed.proofs.Laws.{int}
use Rattle.book.specs.Book.{add, paint, remove}
use Rattle.book.specs.Each.{Each}
use Rattle.book.specs.Demand3.{OverLent}
use Rattle.book.proofs.Tests.{and_true_parts}
use Rattle.drawing.specs.Drawing.{StyledFigure, drawing, styled_figure}
use Rattle.host_records.specs.RecordNumbers.{number_at, list_from, all_from, within, is_figure, is_style, figure_of, style_of}
use Rattle.sheet_call_numbers.specs.CallNumbers.{call_length, call_kind_at, call_layer_at, add_kind, paint_kind, remove_kind, figure_part, style_part}
use Rattle.sheet_call_numbers.specs.CallNumbers.{is_call, call_of, call_numbers, are_calls, call_count, encodes_calls}
use Rattle.sheet_calls.specs.SheetCalls.{OverLentSame, OverLentNoRemoval}

-- ---- a fact of each thing that is listed
module _ {A : Type 0} (P : A → Type 0) (f : ℕ → A) where
  each_listed : ((k : ℕ) → P (f k)) → (j n : ℕ) → Each P (list_from f j n)
  unfolding list_from
  each_listed holds j zero = tt
  each_listed holds j (suc n) = (holds j, each_listed holds (suc j) n)

  -- where a test holds of each
  each_tested : (test : ℕ → Bool) (count : ℕ) → ((k : ℕ) → k < count → test k ≡ true → P (f k)) → (j n : ℕ) → j + n ≤ count
      → all_from test j n ≡ true → Each P (list_from f j n)
  unfolding list_from all_from
  each_tested test count holds j zero few passed = tt
  each_tested test count holds j (suc n) few passed =
      let parts = and_true_parts (test j) (all_from test (suc j) n) passed in
      (holds j (omega arith) parts.0, each_tested test count holds (suc j) n (omega arith) parts.1)

-- ---- one call
module _ (lent background : List ℕ) where
  by_kind : (i : ℕ) (item : StyledFigure) (removes paints : Bool) → (removes ≡ true → background ≡ lent)
      → OverLent drawing lent (cond removes (remove i background) (cond paints (paint i) (add item)))
  by_kind i item true paints over = over refl
  by_kind i item false true over = tt
  by_kind i item false false over = tt

  call_over_lent : (numbers : List ℤ) → (le_z remove_kind (number_at numbers call_kind_at) ≡ true → background ≡ lent)
      → OverLent drawing lent (call_of background numbers)
  unfolding call_of
  call_over_lent numbers over =
      by_kind (floor0 (number_at numbers call_layer_at)) (styled_figure (figure_of (figure_part numbers)) (style_of (style_part numbers)))
      (le_z remove_kind (number_at numbers call_kind_at)) (le_z paint_kind (number_at numbers call_kind_at)) over

-- the kinds of calls end with that of a removal
highest_kind : (z : ℤ) → le_z z remove_kind ≡ true → le_z remove_kind z ≡ true → z ≡ remove_kind
highest_kind z most least = omega (arith, int)

call_kind_most : (numbers : List ℤ) → is_call numbers ≡ true → le_z (number_at numbers call_kind_at) remove_kind ≡ true
unfolding is_call
call_kind_most numbers is =
    let z = number_at numbers call_kind_at in
    (and_true_parts (le_z add_kind z) (le_z z remove_kind)
    (and_true_parts (within add_kind remove_kind z)
    (cond (le_z paint_kind z) (le_z (pos 0) (number_at numbers call_layer_at))
    (is_figure (figure_part numbers) && is_style (style_part numbers))) is).0
    ).1

-- ---- the lists
pub over_lent_same : OverLentSame
over_lent_same lent background same numbers =
    each_listed (OverLent drawing lent) (λ k. call_of background (call_numbers numbers k))
    (λ k. call_over_lent lent background (call_numbers numbers k) (λ removes. same)) 0 (call_count numbers)

pub over_lent_no_removal : OverLentNoRemoval
unfolding encodes_calls
over_lent_no_removal lent background numbers calls no_removal =
    each_tested (OverLent drawing lent) (λ k. call_of background (call_numbers numbers k)) (λ k. is_call (call_numbers numbers k))
    (call_count numbers)
    (λ k before is.
    call_over_lent lent background (call_numbers numbers k)
    (λ removes.
    absurd (no_removal k before
    (highest_kind (number_at (call_numbers numbers k) call_kind_at) (call_kind_most (call_numbers numbers k) is) removes))))
    0 (call_count numbers) (omega arith)
    (and_true_parts (eqb (length numbers % call_length) 0) (are_calls numbers 0 (call_count numbers)) calls).1
