-- The answers of a sheet record, test by test as the code makes them, and what an accepted call tells of its arguments.
-- Assumes nothing.
use Rattle.std.specs.Prelude.{Err}
use mathlib.Core.Path.{◌≡◌, refl, sym, ap, ◌∙◌}
use mathlib.Core.Bool.{Bool, true, false, not}
use mathlib.Core.List.{List, [], ◌∷◌, map}
use mathlib.Core.Option.{Option}
use Prim.Native.Nat.{ℕ, zero, suc, ◌*◌, ◌<◌, ◌≤◌}
use native.Mathlib.Omega.{arith}
use lib.Dec.{leb, eqb}
use lib.ListN.{length, take, get_or, get_elem?, length-map, length-take}
use lib.Seq.{take-take}
use lib.Signed.{le_z}
use borrow.Author.Tests.{leb-true, leb-false, eqb-true, le-leb, lt-leb, not-false}
use Rattle.refusal.specs.declared.Refusal.{Refusal}
use Rattle.refusal.specs.declared.Refusal.TheVariants.{SheetRule, CanvasLength, SheetFull, NoLayer, NoRowLeft, RowOwed}
use Rattle.geometry.specs.Limits.{max_layers}
use Rattle.refusal.specs.Refusal.{or_else, refuse_if, Checked, passed}
use Rattle.refusal.proofs.Checks.{refused_apart, passed_first, passed_next, passed_condition}
use Rattle.canvas_size.specs.CanvasSize.{canvas_length_check}
use Rattle.canvas_size.proofs.Sides.{canvas_length_passed}
use Rattle.book.specs.Book.{add, paint, remove}
use Rattle.book.specs.Sheet.{keeps_rules, layer_answer, answer}
use Rattle.book.proofs.Lists.{take_map}
use Rattle.book.proofs.LowestNumber.{paint_refused_broken_sheet, paint_answer_on_sheet}
use Rattle.drawing.specs.Drawing.{StyledFigure, drawing}
use Rattle.sheet_layers.specs.declared.Layer.{Layer}
use Rattle.sheet_layers.specs.declared.rows.LayerRows.{LayerRows}
use Rattle.sheet_layers.specs.LayerRows.{some_rows_owe}
use Rattle.sheet_layers.specs.Layers.{blank_layer, layers_of, state_of, layer_rows}
use Rattle.sheet_layers.proofs.RowTests.{no_rows}
use Rattle.sheet_layers.proofs.LayerRules.{owe_by_rows}
use Rattle.sheet_checks.specs.Asked.{remove_check}
use Rattle.sheet_checks.proofs.Places.{layers_many, layer_at, layer_past, layers_before, kept_few}

module _ (W H count : ℕ) (places : List Layer) (sixteen : length places ≡ 16) where
  abbrev kept : Bool
  kept = keeps_rules drawing W H (layers_of count places)

  -- ---- an add call
  module _ (item : StyledFigure) (canvas : List ℕ) where
    abbrev added : Checked
    added = answer drawing W H (state_of count places canvas) (add item)

    pub add_broken : kept ≡ false → added ≡ or_else (drawing.refuse item) (Err SheetRule)
    unfolding answer
    add_broken broken = rw broken

    module _ (rules : kept ≡ true) where
      many : length (layers_of count places) ≡ count
      many = layers_many count places sixteen (kept_few W H count places sixteen rules)

      pub add_full : 16 ≤ count → added ≡ or_else (drawing.refuse item) (Err SheetFull)
      unfolding answer
      add_full full = rw (rules, le-leb max_layers (length (layers_of count places)) (omega (arith, many)))

      pub add_free : count < 16 → added ≡ or_else (drawing.refuse item) passed
      unfolding answer
      add_free free = rw (rules, lt-leb max_layers (length (layers_of count places)) (omega (arith, many)))

    pub added_room : added ≡ passed → count < 16
    unfolding answer
    added_room e =
        let test : Bool = leb max_layers (length (layers_of count places)) in
        let seven = refuse_if (not kept) SheetRule in
        let nine = refuse_if test SheetFull in
        let own = passed_next (drawing.refuse item) (or_else seven nine) e in
        let rules = not-false kept (passed_condition (not kept) SheetRule (passed_first seven nine own)) in
        let free = leb-false max_layers (length (layers_of count places)) (passed_condition test SheetFull (passed_next seven nine own)) in
        omega (arith, many rules)

  -- ---- a paint call
  module _ (i : ℕ) (canvas : List ℕ) where
    abbrev painted : Checked
    painted = answer drawing W H (state_of count places canvas) (paint i)

    pub paint_broken : kept ≡ false → painted ≡ Err SheetRule
    paint_broken broken = paint_refused_broken_sheet drawing W H (state_of count places canvas) i broken

    module _ (rules : kept ≡ true) where
      few : count ≤ 16
      few = kept_few W H count places sixteen rules

      pub paint_length : (refusal : Refusal) → canvas_length_check W H (length canvas) ≡ Err refusal
          → painted ≡ Err refusal
      unfolding answer canvas_length_check
      paint_length refusal check = by_test (eqb (length canvas) (W * H)) refl check
        where
          by_test : (t : Bool) → eqb (length canvas) (W * H) ≡ t → refuse_if (not t) CanvasLength ≡ Err refusal
              → painted ≡ Err refusal
          by_test true e check = let z : ◌≡◌ {A = ℕ} 0 1 = cc in absurd (omega arith)
          by_test false e check = let same : CanvasLength ≡ refusal = cc in rw (rules, e) (ap Err same)

      module _ (size : canvas_length_check W H (length canvas) ≡ passed) where
        on_sheet : painted ≡ layer_answer drawing (layers_of count places) i (get_elem? (layers_of count places) i)
        on_sheet =
            paint_answer_on_sheet drawing W H (state_of count places canvas) i rules
            (canvas_length_passed W H (length canvas) size)

        pub paint_no_layer : count ≤ i → painted ≡ Err NoLayer
        paint_no_layer past = on_sheet ∙ rw (layer_past count places sixteen few i past)

        module _ (within : i < count) where
          abbrev layer : Layer
          layer = get_or places i blank_layer

          by_layer : painted
              ≡ or_else (refuse_if (le_z (layer_rows layer).end (layer_rows layer).next) NoRowLeft)
              (refuse_if (some_rows_owe (map layer_rows (take i places)) (layer_rows layer).next) RowOwed)
          unfolding layer_rows
          by_layer =
              on_sheet
              ∙ rw (
                layer_at count places sixteen few i within,
                layers_before count places sixteen few i (omega arith),
                owe_by_rows
                    (take i places) layer.next_row,
              )

          pub paint_finished : le_z (layer_rows layer).end (layer_rows layer).next ≡ true → painted ≡ Err NoRowLeft
          paint_finished finished = by_layer ∙ rw finished

          module _ (left : le_z (layer_rows layer).end (layer_rows layer).next ≡ false) where
            pub paint_owed : some_rows_owe (map layer_rows (take i places)) (layer_rows layer).next ≡ true → painted ≡ Err RowOwed
            paint_owed owed = by_layer ∙ rw (left, owed)

            pub paint_free : some_rows_owe (map layer_rows (take i places)) (layer_rows layer).next ≡ false → painted ≡ passed
            paint_free free = by_layer ∙ rw (left, free)

    -- accepted, the sheet keeps its rules, the canvas has its length, and there is such a layer
    pub record PaintAccepted : Type 0 where
      pub rules : kept ≡ true
      pub size : length canvas ≡ W * H
      pub within : i < count

    pub painted_accepted : painted ≡ passed → PaintAccepted
    unfolding answer
    painted_accepted e =
        let fits : Bool = eqb (length canvas) (W * H) in
        let found : Option _ = get_elem? (layers_of count places) i in
        let by : Checked = layer_answer drawing (layers_of count places) i (get_elem? (layers_of count places) i) in
        let seven = refuse_if (not kept) SheetRule in
        let eight = refuse_if (not fits) CanvasLength in
        let rest = passed_next seven (or_else eight by) e in
        let rules = not-false kept (passed_condition (not kept) SheetRule (passed_first seven (or_else eight by) e)) in
        record {
          rules = rules;
          size = eqb-true (length canvas) (W * H) (not-false fits (passed_condition (not fits) CanvasLength (passed_first eight by rest)));
          within = by_place rules (leb count i) refl (passed_next eight by rest);
        }
      where
        by_place : (rules : kept ≡ true) (t : Bool) → leb count i ≡ t
            → layer_answer drawing (layers_of count places) i (get_elem? (layers_of count places) i) ≡ passed → i < count
        by_place rules true past e =
            let lacking = layer_past count places sixteen (few rules) i (leb-true count i past) in
            absurd (refused_apart (sym (ap (layer_answer drawing (layers_of count places) i) lacking) ∙ e))
        by_place rules false past e = leb-false count i past

  -- ---- a removal
  module _ (i : ℕ) (background canvas : List ℕ) where
    abbrev removed : Checked
    removed = answer drawing W H (state_of count places canvas) (remove i background)

    -- the check made by the record's own count is the answer
    pub remove_check_is : remove_check kept W H (length canvas) (length background) count i ≡ removed
    unfolding answer remove_check canvas_length_check
    remove_check_is = by_rules kept refl
      where
        rest : ℕ → Checked
        rest n =
            or_else (refuse_if (not (eqb (length canvas) (W * H))) CanvasLength)
            (or_else (refuse_if (not (eqb (length background) (W * H))) CanvasLength) (refuse_if (leb n i) NoLayer))

        by_rules : (t : Bool) → kept ≡ t
            → or_else (refuse_if (not t) SheetRule) (rest count)
            ≡ or_else (refuse_if (not t) SheetRule) (rest (length (layers_of count places)))
        by_rules true rules = ap rest (sym (layers_many count places sixteen (kept_few W H count places sixteen rules)))
        by_rules false broken = refl

    -- accepted, the sheet keeps its rules, both buffers have its length, and there is such a layer
    pub record RemoveAccepted : Type 0 where
      pub rules : kept ≡ true
      pub size : length canvas ≡ W * H
      pub long : length background ≡ W * H
      pub within : i < count

    pub removed_accepted : removed ≡ passed → RemoveAccepted
    unfolding remove_check
    removed_accepted e =
        let ten = refuse_if (leb count i) NoLayer in
        let eight = canvas_length_check W H (length background) in
        let first = canvas_length_check W H (length canvas) in
        let seven = refuse_if (not kept) SheetRule in
        let all = remove_check_is ∙ e in
        let rest = passed_next seven (or_else first (or_else eight ten)) all in
        let last = passed_next first (or_else eight ten) rest in
        record {
          rules = not-false kept (passed_condition (not kept) SheetRule (passed_first seven (or_else first (or_else eight ten)) all));
          size = canvas_length_passed W H (length canvas) (passed_first first (or_else eight ten) rest);
          long = canvas_length_passed W H (length background) (passed_first eight ten last);
          within = leb-false count i (passed_condition (leb count i) NoLayer (passed_next eight ten last));
        }

-- ---- rows that were found for the first n places
module _ (n i : ℕ) (within : i < n) (rows : List LayerRows) (layers : List Layer)
    (found : take n rows ≡ map layer_rows (take n layers)) where
  pub rows_at : n ≤ length layers → get_or rows i no_rows ≡ layer_rows (get_or layers i blank_layer)
  rows_at enough = by_place n i rows layers within found room enough
    where
      room : n ≤ length rows
      room =
          let long = sym (length-take n rows) ∙ ap length found ∙ length-map (take n layers) layer_rows ∙ length-take n layers in
          omega arith

      by_place : (n i : ℕ) (rows : List LayerRows) (layers : List Layer) → i < n → take n rows ≡ map layer_rows (take n layers)
          → n ≤ length rows → n ≤ length layers → get_or rows i no_rows ≡ layer_rows (get_or layers i blank_layer)
      by_place zero i rows layers h e a b = absurd (omega arith)
      by_place (suc n) i [] layers h e a b = absurd (omega arith)
      by_place (suc n) i (r ∷ rows) [] h e a b = absurd (omega arith)
      by_place (suc n) zero (r ∷ rows) (l ∷ layers) h e a b = cc
      by_place (suc n) (suc i) (r ∷ rows) (l ∷ layers) h e a b =
          by_place n i rows layers (omega arith) (cc) (omega arith) (omega arith)

  pub rows_before : take i rows ≡ map layer_rows (take i layers)
  rows_before =
      sym (take-take i n rows (omega arith))
      ∙ ap (take i) found
      ∙ take_map layer_rows i (take n layers)
      ∙ ap (map layer_rows) (take-take i n layers (omega arith))
