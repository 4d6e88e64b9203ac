-- The sheet of a book, whose layers are the figures noted with their first rows left: while the book is in order, the sheet
-- keeps the rules and answers each call as the book does, and after the call it is the sheet of the book after it.
-- Assumes nothing.
use Rattle.std.specs.Prelude.{Ok, Err}
use mathlib.Core.Path.{◌≡◌, refl, sym, ap, ap₂, ◌∙◌}
use mathlib.Core.List.{List, [], ◌∷◌, ◌++◌, map, map-append}
use mathlib.Core.Option
use mathlib.Core.Option.{Option, none, some}
use mathlib.Core.Bool.{Bool, true, ◌||◌}
use Prim.Native.Nat.{ℕ, suc, ◌*◌}
use native.Mathlib.Omega.{arith}
use lib.IntN.{ℤ, pos, ◌+ℤ◌}
use lib.ListN.{length, take, set, get_elem?, length-map}
use Rattle.signed.proofs.Laws.{int, add_law}
use Rattle.refusal.specs.declared.Refusal.TheVariants.{NoRowLeft, RowOwed}
use Rattle.refusal.specs.Refusal.{refuse_if, or_else, keeping, Checked}
use Rattle.book.specs.Book.{without, Drawing, Call, add, paint, remove, Entry, Book, first_left, some_owes, entry_answer, book_answer}
use Rattle.book.specs.Book.{counted, noted, book_after}
use Rattle.book.specs.Sheet.{State, Layers, some_layer_owes, WithinSide, LayerRules, OrderRule, Rules, keeps_rules}
use Rattle.book.specs.Sheet.{layer_answer, answer, paint_row, painted_layer, restored, carried_out, after}
use Rattle.book.specs.Demand3.{layer_of}
use Rattle.book.proofs.EachLaws.{each_map, each_two_map}
use Rattle.book.proofs.Lists.{element_map, take_map, set_map, without_map}
use Rattle.book.proofs.EntryRows.{has_row_true, painted_holds, layer_owes_is, layer_none_left_is}
use Rattle.book.proofs.RulesTest.{rules_test}
use Rattle.book.proofs.LowestNumber.{add_answer_on_sheet, paint_answer_on_sheet, remove_answer_on_sheet}
use Rattle.book.proofs.BookInOrder.{Within, NotAhead, InOrder}

module _ (d : Drawing) where
  -- the sheet of a book, with a canvas
  abbrev pub sheet_of : Book d → List ℕ → State d.Item
  sheet_of book canvas = record { layers = map (layer_of d) book; canvas = canvas }

  -- ---- the rules
  entry_layer_rules : (e : Entry d.Item) → Within d e → LayerRules d (layer_of d e)
  entry_layer_rules e w =
      let start = d.first e.item in
      record {
        allowed = w.allowed;
        from_first = omega (arith, int, add_law start (pos e.count));
        to_end = omega
            (arith, int, w.counted_rows, add_law start (pos e.count), add_law start (pos (d.rows e.item)));
      }

  entries_order_rule : (e later : Entry d.Item) → NotAhead d e later → OrderRule d (layer_of d e) (layer_of d later)
  entries_order_rule e later behind y owed row above =
      let r = has_row_true d later.item y row in
      behind y (sym (layer_owes_is d e y) ∙ owed)
      (painted_holds d later y (record { from_start = r.from_start; before_end = above }))

  module _ (W H : ℕ) (width : WithinSide d W) (height : WithinSide d H) where
    pub in_order_rules : (book : Book d) → InOrder d book → Rules d W H (map (layer_of d) book)
    in_order_rules book ordered =
        record {
          width = width;
          height = height;
          few = omega (arith, ordered.few, length-map book (layer_of d));
          each = each_map (layer_of d) (Within d) (LayerRules d) entry_layer_rules book ordered.within;
          order = each_two_map (layer_of d) (NotAhead d) (OrderRule d) entries_order_rule book ordered.order;
        }

    pub in_order_keeps_rules : (book : Book d) → InOrder d book → keeps_rules d W H (map (layer_of d) book) ≡ true
    in_order_keeps_rules book ordered = rules_test d W H (map (layer_of d) book) (in_order_rules book ordered)

  -- ---- the answer
  some_layer_owes_is : (book : Book d) (y : ℤ) → some_layer_owes d (map (layer_of d) book) y ≡ some_owes d book y
  unfolding some_layer_owes some_owes
  some_layer_owes_is [] y = refl
  some_layer_owes_is (e ∷ rest) y = ap₂ ◌||◌ (layer_owes_is d e y) (some_layer_owes_is rest y)

  layer_answer_is : (book : Book d) (i : ℕ) (o : Option (Entry d.Item))
      → layer_answer d (map (layer_of d) book) i (Option.map (layer_of d) o) ≡ entry_answer d book i o
  layer_answer_is book i none = refl
  layer_answer_is book i (some e) =
      ap₂ (λ (none_left owed : Bool). or_else (refuse_if none_left NoRowLeft) (refuse_if owed RowOwed))
      (layer_none_left_is d e)
      (ap (λ (earlier : Layers d). some_layer_owes d earlier (first_left d e)) (take_map (layer_of d) i book)
      ∙ some_layer_owes_is (take i book) (first_left d e))

  -- a removal's background has the length of the sheet's canvas
  abbrev pub Fits : ℕ → ℕ → Call d.Item → Type 0
  Fits W H (add item) = Unit {0}
  Fits W H (paint i) = Unit {0}
  Fits W H (remove i background) = length background ≡ W * H

  module _ (W H : ℕ) (width : WithinSide d W) (height : WithinSide d H) (book : Book d) (canvas : List ℕ)
      (ordered : InOrder d book) (size : length canvas ≡ W * H) where
    pub answer_is_book : (call : Call d.Item) → Fits W H call
        → answer d W H (sheet_of book canvas) call ≡ book_answer d book call
    unfolding book_answer
    answer_is_book (add item) fits =
        add_answer_on_sheet d W H (sheet_of book canvas) item (in_order_keeps_rules W H width height book ordered)
        ∙ rw (length-map book (layer_of d))
    answer_is_book (paint i) fits =
        paint_answer_on_sheet d W H (sheet_of book canvas) i (in_order_keeps_rules W H width height book ordered) size
        ∙ rw (element_map (layer_of d) book i) (layer_answer_is book i (get_elem? book i))
    answer_is_book (remove i background) fits =
        remove_answer_on_sheet d W H (sheet_of book canvas) i background
        (in_order_keeps_rules W H width height book ordered) size fits
        ∙ rw (length-map book (layer_of d))

  -- ---- the sheet and the canvas after a call
  -- one more row moves the next row down by one, and none is the first row
  pub next_down : (e : Entry d.Item) → first_left d e +ℤ pos 1 ≡ d.first e.item +ℤ pos (suc e.count)
  next_down e =
      let start = d.first e.item in
      let n = e.count in
      omega (arith, int, add_law start (pos n), add_law (start +ℤ pos n) (pos 1), add_law start (pos (suc n)))

  none_down : (item : d.Item) → d.first item ≡ d.first item +ℤ pos 0
  none_down item = omega (arith, int, add_law (d.first item) (pos 0))

  layers_equal : (canvas : List ℕ) {l m : Layers d} → l ≡ m
      → ◌≡◌ {A = State d.Item} (record { layers = l; canvas = canvas }) (record { layers = m; canvas = canvas })
  layers_equal canvas e = ap (λ (t : Layers d). record { layers = t; canvas = canvas }) e

  keeping_sheet : (a : Checked) (book book' : Book d) (canvas canvas' : List ℕ)
      → keeping a (sheet_of book canvas) (sheet_of book' canvas') ≡ sheet_of (keeping a book book') (keeping a canvas canvas')
  keeping_sheet (Ok _) book book' canvas canvas' = refl
  keeping_sheet (Err refusal) book book' canvas canvas' = refl

  module _ (W H : ℕ) where
    -- the canvas after an accepted call, by the book before it
    abbrev pub canvas_painted : List ℕ → Option (Entry d.Item) → List ℕ
    canvas_painted canvas none = canvas
    canvas_painted canvas (some e) = paint_row d W H e.item (first_left d e) canvas

    abbrev pub canvas_removed : Book d → List ℕ → List ℕ → Option (Entry d.Item) → List ℕ
    canvas_removed others background canvas o =
        restored d W H (Option.map (layer_of d) o) (map (layer_of d) others) background canvas

    abbrev pub canvas_carried_out : Book d → List ℕ → Call d.Item → List ℕ
    canvas_carried_out book canvas (add item) = canvas
    canvas_carried_out book canvas (paint i) = canvas_painted canvas (get_elem? book i)
    canvas_carried_out book canvas (remove i background) =
        canvas_removed (without i book) background canvas (get_elem? book i)

    -- the canvas after a call, by the book before it
    unfoldable pub canvas_after : Book d → List ℕ → Call d.Item → List ℕ
    canvas_after book canvas call = keeping (book_answer d book call) canvas (canvas_carried_out book canvas call)

    painted_layer_is : (book : Book d) (canvas : List ℕ) (i : ℕ) (o : Option (Entry d.Item))
        → painted_layer d W H (sheet_of book canvas) i (Option.map (layer_of d) o)
        ≡ sheet_of (counted d book i o) (canvas_painted canvas o)
    painted_layer_is book canvas i none = refl
    painted_layer_is book canvas i (some e) =
        layers_equal (paint_row d W H e.item (first_left d e) canvas)
        (ap (λ (z : ℤ). set (map (layer_of d) book) i (record { item = e.item; next = z })) (next_down e)
        ∙ set_map (layer_of d) book i (record { item = e.item; count = suc e.count }))

    carried_out_is : (book : Book d) (canvas : List ℕ) (call : Call d.Item)
        → carried_out d W H (sheet_of book canvas) call ≡ sheet_of (noted d book call) (canvas_carried_out book canvas call)
    unfolding carried_out noted
    carried_out_is book canvas (add item) =
        layers_equal canvas
        (ap (λ (z : ℤ). map (layer_of d) book ++ (record { item = item; next = z } ∷ [])) (none_down item)
        ∙ sym (map-append (layer_of d) book (record { item = item; count = 0 } ∷ [])))
    carried_out_is book canvas (paint i) =
        rw (element_map (layer_of d) book i) (painted_layer_is book canvas i (get_elem? book i))
    carried_out_is book canvas (remove i background) =
        rw (element_map (layer_of d) book i)
        (ap (λ (l : Layers d). record {
          layers = l;
          canvas = restored d W H (Option.map (layer_of d) (get_elem? book i)) l background canvas;
        }) (without_map (layer_of d) i book))

    pub after_is_book : WithinSide d W → WithinSide d H → (book : Book d) (canvas : List ℕ) → InOrder d book
        → length canvas ≡ W * H → (call : Call d.Item) → Fits W H call
        → after d W H (sheet_of book canvas) call ≡ sheet_of (book_after d book call) (canvas_after book canvas call)
    unfolding after book_after canvas_after
    after_is_book width height book canvas ordered size call fits =
        rw (answer_is_book W H width height book canvas ordered size call fits, carried_out_is book canvas call)
        (keeping_sheet (book_answer d book call) book (noted d book call) canvas (canvas_carried_out book canvas call))
