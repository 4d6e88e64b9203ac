-- The rules are kept from any sheet that keeps them, also one that no call has led to: it is the sheet of a book in order,
-- where a layer has painted as many rows as its next row lies below its first. So a call leaves the sheet of the book after
-- it, which is in order again. A canvas or a background of another length changes nothing of that: an add call does not look
-- at it, and a paint call or a removal is refused for it.
-- Assumes nothing.
use mathlib.Core.Path.{◌≡◌, refl, sym, ap, ap₂, subst, ◌∙◌}
use mathlib.Core.List.{List, [], ◌∷◌, map}
use mathlib.Core.Bool.{Bool, true, false}
use Prim.Native.Nat.{ℕ, ◌*◌}
use native.Mathlib.Omega.{arith}
use borrow.Author.Tests.{eqb-true, eqb-false}
use lib.Dec.{eqb}
use lib.IntN.{ℤ, pos, ◌-ℤ◌}
use lib.Signed.{le_z, lt_z}
use lib.ListN.{length, replicate, length-map, length-replicate}
use Rattle.signed.specs.Signed.{floor0}
use Rattle.signed.proofs.Laws.{int, add_law, sub_law}
use Rattle.book.specs.Each.{Each}
use Rattle.book.specs.Book.{Drawing, Call, add, paint, remove, Entry, Book, first_left}
use Rattle.book.specs.Sheet.{Layer, State, Layers, layer_owes, LayerRules, OrderRule, Rules, keeps_rules, after, after_all}
use Rattle.book.specs.Sheet.{RulesKept, RulesKeptByAll}
use Rattle.book.specs.Demand3.{layer_of}
use Rattle.book.proofs.EachLaws.{each_map, each_two_map, AndOfEach, each_two_and_each}
use Rattle.book.proofs.EntryRows.{painted_true, has_row_holds, layer_owes_is}
use Rattle.book.proofs.RulesTest.{rules_test}
use Rattle.book.proofs.LowestNumber.{add_any_canvas, paint_refused_canvas, remove_refused_canvas, remove_refused_background}
use Rattle.book.proofs.LowestNumber.{refused_changes_nothing}
use Rattle.book.proofs.BookInOrder.{Within, NotAhead, InOrder, in_order_after}
use Rattle.book.proofs.SheetOfBook.{sheet_of, in_order_rules, Fits, after_is_book}

module _ (d : Drawing) where
  -- ---- the book of a sheet
  -- the entry of a layer, whose count is how far its next row lies below its first
  abbrev pub entry_of : Layer d.Item → Entry d.Item
  entry_of l = record { item = l.item; count = floor0 (l.next -ℤ d.first l.item) }

  abbrev pub book_of : Layers d → Book d
  book_of layers = map entry_of layers

  module _ (l : Layer d.Item) (r : LayerRules d l) where
    abbrev start : ℤ
    start = d.first l.item

    first_left_is_next : first_left d (entry_of l) ≡ l.next
    first_left_is_next =
        let low : le_z start l.next ≡ true = r.from_first in
        omega (arith, int, sub_law l.next start, add_law start (pos (floor0 (l.next -ℤ start))))

    entry_within : Within d (entry_of l)
    entry_within =
        let high = r.to_end in
        record {
          allowed = r.allowed;
          counted_rows = omega (arith, int, sub_law l.next start, add_law start (pos (d.rows l.item)));
        }

    layer_of_entry : layer_of d (entry_of l) ≡ l
    layer_of_entry = λ i. record { item = l.item; next = first_left_is_next i }

  layers_of_book : (layers : Layers d) → Each (LayerRules d) layers → map (layer_of d) (book_of layers) ≡ layers
  layers_of_book [] rs = refl
  layers_of_book (l ∷ rest) rs =
      ap₂ {C = Layers d} (λ x xs. x ∷ xs) (layer_of_entry l rs.0) (layers_of_book rest rs.1)

  entries_not_ahead : (earlier later : Layer d.Item) → AndOfEach (LayerRules d) (OrderRule d) earlier later
      → NotAhead d (entry_of earlier) (entry_of later)
  entries_not_ahead earlier later rules y owed painted =
      let p = painted_true d (entry_of later) y painted in
      let next = first_left_is_next later rules.1 in
      let above : lt_z y (first_left d (entry_of later)) ≡ true = p.before_end in
      let high = rules.1.to_end in
      rules.2 y
      (ap (λ (l : Layer d.Item). layer_owes d l y) (sym (layer_of_entry earlier rules.0))
      ∙ layer_owes_is d (entry_of earlier) y
      ∙ owed)
      (has_row_holds d later.item y (record { from_start = p.from_start; before_end = omega (arith, int) }))
      (sym (ap (lt_z y) next) ∙ above)

  pub book_in_order : (W H : ℕ) (layers : Layers d) → Rules d W H layers → InOrder d (book_of layers)
  book_in_order W H layers r =
      record {
        few = omega (arith, r.few, length-map layers entry_of);
        within = each_map entry_of (LayerRules d) (Within d) entry_within layers r.each;
        order = each_two_map entry_of (AndOfEach (LayerRules d) (OrderRule d)) (NotAhead d) entries_not_ahead layers
            (each_two_and_each (LayerRules d) (OrderRule d) layers r.each r.order);
      }

  -- ---- one call
  module _ (W H : ℕ) where
    -- on a canvas of the sheet's size
    kept_on_its_canvas : (s : State d.Item) → Rules d W H s.layers → length s.canvas ≡ W * H
        → (call : Call d.Item) → Fits d W H call → Rules d W H (after d W H s call).layers
    kept_on_its_canvas s r size call fits =
        let book = book_of s.layers in
        let ordered = book_in_order W H s.layers r in
        let back : sheet_of d book s.canvas ≡ s =
        ap (λ (l : Layers d). record { layers = l; canvas = s.canvas }) (layers_of_book s.layers r.each) in
        let left =
        ap (λ (t : State d.Item). after d W H t call) (sym back)
        ∙ after_is_book d W H r.width r.height book s.canvas ordered size call fits in
        subst (λ (t : State d.Item). Rules d W H t.layers) (sym left)
        (in_order_rules d W H r.width r.height _ (in_order_after d book call ordered))

  pub rules_kept_lem : RulesKept d
  rules_kept_lem W H s r (add item) =
      let blank : List ℕ = replicate (W * H) 0 in
      subst (λ (t : State d.Item). Rules d W H t.layers) (sym (add_any_canvas d W H s item blank))
      (kept_on_its_canvas W H (record { layers = s.layers; canvas = blank }) r (length-replicate (W * H) 0) (add item) tt)
  rules_kept_lem W H s r (paint i) = by_length (eqb (length s.canvas) (W * H)) refl
    where
      by_length : (t : Bool) → eqb (length s.canvas) (W * H) ≡ t → Rules d W H (after d W H s (paint i)).layers
      by_length true size = kept_on_its_canvas W H s r (eqb-true (length s.canvas) (W * H) size) (paint i) tt
      by_length false other =
          let eight =
          paint_refused_canvas d W H s i (rules_test d W H s.layers r)
          (eqb-false (length s.canvas) (W * H) other) in
          rw (refused_changes_nothing d W H s (paint i) eight) r
  rules_kept_lem W H s r (remove i background) =
      by_lengths (eqb (length s.canvas) (W * H)) (eqb (length background) (W * H)) refl refl
    where
      kept : keeps_rules d W H s.layers ≡ true
      kept = rules_test d W H s.layers r

      by_lengths : (t u : Bool) → eqb (length s.canvas) (W * H) ≡ t → eqb (length background) (W * H) ≡ u
          → Rules d W H (after d W H s (remove i background)).layers
      by_lengths true true size long =
          kept_on_its_canvas W H s r (eqb-true (length s.canvas) (W * H) size) (remove i background)
          (eqb-true (length background) (W * H) long)
      by_lengths true false size other =
          let eight =
          remove_refused_background d W H s i background kept (eqb-true (length s.canvas) (W * H) size)
          (eqb-false (length background) (W * H) other) in
          rw (refused_changes_nothing d W H s (remove i background) eight) r
      by_lengths false u other long =
          let eight = remove_refused_canvas d W H s i background kept (eqb-false (length s.canvas) (W * H) other) in
          rw (refused_changes_nothing d W H s (remove i background) eight) r

  -- ---- a list of calls
  pub rules_kept_by_all : RulesKeptByAll d
  unfolding after_all
  rules_kept_by_all W H s r [] = r
  rules_kept_by_all W H s r (call ∷ calls) = rules_kept_by_all W H (after d W H s call) (rules_kept_lem W H s r call) calls
