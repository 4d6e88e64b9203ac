-- The lowest number that applies to a call on a sheet, test by test: what is answered where the tests before it do not
-- apply, that 7 is answered only where the sheet breaks the rules, and that a refused call changes nothing. Each is the
-- definition of `answer` or `after`, with the tests put in.
-- Assumes nothing.
use Rattle.std.specs.Prelude.{Ok, Err}
use mathlib.Core.Path.{◌≡◌, refl, sym, ap, ◌∙◌}
use mathlib.Core.Bool.{Bool, true, false, not}
use mathlib.Core.List.{List}
use mathlib.Core.Option.{Option, none, some}
use Prim.Native.Nat.{ℕ, ◌*◌}
use native.Mathlib.Omega.{arith}
use lib.Dec.{leb, eqb}
use lib.Signed.{le_z}
use lib.ListN.{length, take, get_elem?}
use borrow.Author.Tests.{eqb-true, eqb-false, eq-eqb, ne_eqb}
use Rattle.refusal.specs.declared.Refusal.{Refusal}
use Rattle.refusal.specs.declared.Refusal.TheVariants.{SheetRule, CanvasLength, SheetFull, NoLayer, NoRowLeft, RowOwed}
use Rattle.refusal.specs.Refusal.{answer_number, refuse_if, or_else, keeping, Checked, passed}
use Rattle.refusal.proofs.Checks.{refused_apart}
use Rattle.book.specs.Book.{Drawing, Call, add, paint, remove, end_row}
use Rattle.book.specs.Sheet.{Layer, State, some_layer_owes, keeps_rules, layer_answer, answer, carried_out, after}
use Rattle.book.proofs.Tests.{false_unless}

module _ (d : Drawing) (W H : ℕ) (s : State d.Item) where
  -- ---- an add call: 1, 2, 3 or 5, then 7, then 9
  module _ (item : d.Item) where
    pub add_refused_item : {refusal : Refusal} → d.refuse item ≡ Err refusal → answer d W H s (add item) ≡ Err refusal
    unfolding answer
    add_refused_item own = rw own

    pub add_refused_broken_sheet : d.refuse item ≡ passed → keeps_rules d W H s.layers ≡ false
        → answer d W H s (add item) ≡ Err SheetRule
    unfolding answer
    add_refused_broken_sheet own broken = rw (own, broken)

    pub add_answer_on_sheet : keeps_rules d W H s.layers ≡ true
        → answer d W H s (add item) ≡ or_else (d.refuse item) (refuse_if (leb d.max_layers (length s.layers)) SheetFull)
    unfolding answer
    add_answer_on_sheet kept = rw kept

    -- where the item is within limits, 7 is answered only where the sheet breaks the rules
    pub add_broken_sheet_only : d.refuse item ≡ passed → answer d W H s (add item) ≡ Err SheetRule
        → keeps_rules d W H s.layers ≡ false
    add_broken_sheet_only own told =
        false_unless (keeps_rules d W H s.layers)
        (λ kept.
        full_not_broken full
        (sym (add_answer_on_sheet kept ∙ ap (λ (a : Checked). or_else a (refuse_if full SheetFull)) own) ∙ told))
      where
        full : Bool
        full = leb d.max_layers (length s.layers)

        full_not_broken : (t : Bool) → refuse_if t SheetFull ≡ Err SheetRule → ⊥
        full_not_broken true e = omega (arith, ap answer_number e)
        full_not_broken false e = refused_apart (sym e)

    -- the canvas is not looked at, and stays
    pub add_any_canvas : (other : List ℕ)
        → after d W H s (add item)
        ≡ record {
          layers = (after d W H (record { layers = s.layers; canvas = other }) (add item)).layers;
          canvas = s.canvas;
        }
    unfolding answer carried_out after
    add_any_canvas other = by_answer (answer d W H s (add item))
      where
        with_other : State d.Item
        with_other = record { layers = s.layers; canvas = other }

        by_answer : (a : Checked)
            → keeping a s (carried_out d W H s (add item))
            ≡ record {
              layers = (keeping a with_other (carried_out d W H with_other (add item))).layers;
              canvas = s.canvas;
            }
        by_answer (Ok _) = refl
        by_answer (Err refusal) = refl

  -- ---- a paint call: 7, then 8, then 10, 11 or 12 by the layer
  module _ (i : ℕ) where
    pub paint_refused_broken_sheet : keeps_rules d W H s.layers ≡ false → answer d W H s (paint i) ≡ Err SheetRule
    unfolding answer
    paint_refused_broken_sheet broken = rw broken

    pub paint_refused_canvas : keeps_rules d W H s.layers ≡ true → (length s.canvas ≡ W * H → ⊥)
        → answer d W H s (paint i) ≡ Err CanvasLength
    unfolding answer
    paint_refused_canvas kept other = rw (kept, ne_eqb (length s.canvas) (W * H) other)

    pub paint_answer_on_sheet : keeps_rules d W H s.layers ≡ true → length s.canvas ≡ W * H
        → answer d W H s (paint i) ≡ layer_answer d s.layers i (get_elem? s.layers i)
    unfolding answer
    paint_answer_on_sheet kept size = rw (kept, eq-eqb (length s.canvas) (W * H) size)

    -- 7 is answered only where the sheet breaks the rules
    pub paint_broken_sheet_only : answer d W H s (paint i) ≡ Err SheetRule → keeps_rules d W H s.layers ≡ false
    paint_broken_sheet_only told =
        false_unless (keeps_rules d W H s.layers) (λ kept. by_length kept (eqb (length s.canvas) (W * H)) refl)
      where
        by_tests : (finished owed : Bool) → or_else (refuse_if finished NoRowLeft) (refuse_if owed RowOwed) ≡ Err SheetRule → ⊥
        by_tests true owed e = omega (arith, ap answer_number e)
        by_tests false true e = omega (arith, ap answer_number e)
        by_tests false false e = refused_apart (sym e)

        by_layer : (o : Option (Layer d.Item)) → layer_answer d s.layers i o ≡ Err SheetRule → ⊥
        by_layer none e = omega (arith, ap answer_number e)
        by_layer (some l) e =
            by_tests (le_z (end_row d l.item) l.next) (some_layer_owes d (take i s.layers) l.next) e

        by_length : keeps_rules d W H s.layers ≡ true → (t : Bool) → eqb (length s.canvas) (W * H) ≡ t → ⊥
        by_length kept true size =
            by_layer (get_elem? s.layers i)
            (sym (paint_answer_on_sheet kept (eqb-true (length s.canvas) (W * H) size)) ∙ told)
        by_length kept false other =
            let eight = paint_refused_canvas kept (eqb-false (length s.canvas) (W * H) other) in
            omega (arith, ap answer_number (sym eight ∙ told))

  -- ---- a removal: 7, then 8 for either buffer, then 10
  module _ (i : ℕ) (background : List ℕ) where
    pub remove_refused_broken_sheet : keeps_rules d W H s.layers ≡ false
        → answer d W H s (remove i background) ≡ Err SheetRule
    unfolding answer
    remove_refused_broken_sheet broken = rw broken

    pub remove_refused_canvas : keeps_rules d W H s.layers ≡ true → (length s.canvas ≡ W * H → ⊥)
        → answer d W H s (remove i background) ≡ Err CanvasLength
    unfolding answer
    remove_refused_canvas kept other = rw (kept, ne_eqb (length s.canvas) (W * H) other)

    pub remove_refused_background : keeps_rules d W H s.layers ≡ true → length s.canvas ≡ W * H
        → (length background ≡ W * H → ⊥) → answer d W H s (remove i background) ≡ Err CanvasLength
    unfolding answer
    remove_refused_background kept size other =
        rw (kept, eq-eqb (length s.canvas) (W * H) size, ne_eqb (length background) (W * H) other)

    pub remove_answer_on_sheet : keeps_rules d W H s.layers ≡ true → length s.canvas ≡ W * H → length background ≡ W * H
        → answer d W H s (remove i background) ≡ refuse_if (leb (length s.layers) i) NoLayer
    unfolding answer
    remove_answer_on_sheet kept size long =
        rw (kept, eq-eqb (length s.canvas) (W * H) size, eq-eqb (length background) (W * H) long)

    -- 7 is answered only where the sheet breaks the rules
    pub remove_broken_sheet_only : answer d W H s (remove i background) ≡ Err SheetRule
        → keeps_rules d W H s.layers ≡ false
    unfolding answer
    remove_broken_sheet_only told = by_tests (keeps_rules d W H s.layers) refl
      where
        rest : Bool → Bool → Bool → Checked
        rest canvas_other background_other past =
            or_else (refuse_if canvas_other CanvasLength) (or_else (refuse_if background_other CanvasLength) (refuse_if past NoLayer))

        not_broken : (a b c : Bool) → rest a b c ≡ Err SheetRule → ⊥
        not_broken true b c e = omega (arith, ap answer_number e)
        not_broken false true c e = omega (arith, ap answer_number e)
        not_broken false false true e = omega (arith, ap answer_number e)
        not_broken false false false e = refused_apart (sym e)

        by_tests : (t : Bool) → keeps_rules d W H s.layers ≡ t → t ≡ false
        by_tests false e = refl
        by_tests true kept =
            absurd
            (not_broken (not (eqb (length s.canvas) (W * H))) (not (eqb (length background) (W * H)))
            (leb (length s.layers) i)
            (sym (ap (λ (t : Bool). or_else (refuse_if (not t) SheetRule)
            (rest (not (eqb (length s.canvas) (W * H))) (not (eqb (length background) (W * H)))
            (leb (length s.layers) i))) kept)
            ∙ told))

  -- ---- sheet and canvas
  pub refused_changes_nothing : (call : Call d.Item) {refusal : Refusal} → answer d W H s call ≡ Err refusal → after d W H s call ≡ s
  unfolding after
  refused_changes_nothing call h = rw h

  pub accepted_is_carried_out : (call : Call d.Item) → answer d W H s call ≡ passed
      → after d W H s call ≡ carried_out d W H s call
  unfolding after
  accepted_is_carried_out call h = rw h
