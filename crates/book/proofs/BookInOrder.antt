-- The half of the invariant that the answers need, with nothing of the picture: the book is in order. It notes no more
-- figures than a sheet has places, each within limits and with a count within its rows, and no later figure has painted a
-- row that an earlier one owes. An accepted paint call keeps this, since no earlier figure owes the one row it adds; so does a
-- removal, which only takes a figure away.
-- Assumes nothing.
use Rattle.std.specs.Prelude.{Ok, Err}
use mathlib.Core.Path.{◌≡◌, refl, sym, ap, ◌∙◌, subst}
use mathlib.Core.List.{List, [], ◌∷◌, ◌++◌}
use mathlib.Core.Option.{Option, none, some}
use mathlib.Core.Bool.{Bool, true, false}
use Prim.Native.Nat.{ℕ, suc, ◌≤◌, ◌<◌}
use native.Mathlib.Omega.{arith}
use lib.Dec.{leb}
use lib.IntN.{ℤ, ℤ_discrete}
use lib.ListN.{length, take, drop, set, get_elem?, length-append}
use borrow.Author.Tests.{leb-false}
use Rattle.refusal.specs.declared.Refusal.TheVariants.{SheetFull, NoLayer, NoRowLeft, RowOwed}
use Rattle.refusal.specs.Refusal.{refuse_if, keeping, Checked, passed}
use Rattle.refusal.proofs.Checks.{refused_apart, passed_first, passed_next, passed_condition}
use Rattle.book.specs.Each.{Each, EachTwo}
use Rattle.book.specs.Book.{without, Drawing, Call, add, paint, remove, Entry, Book, first_left, has_painted, owes, some_owes, none_left}
use Rattle.book.specs.Book.{entry_answer, book_answer, noted, book_after}
use Rattle.book.proofs.Tests.{true_false_apart}
use Rattle.book.proofs.EachLaws.{each_append, each_left, each_right, each_of_every, each_implies, each_two_replace}
use Rattle.book.proofs.EachLaws.{each_two_last, each_two_without}
use Rattle.book.proofs.Lists.{split_at_element, set_at_element, element_there}
use Rattle.book.proofs.EntryRows.{one_more, one_more_painted_other, one_more_owes, new_entry_painted_none}
use Rattle.book.proofs.EntryRows.{none_owes_each}

module _ (d : Drawing) where
  -- a figure within limits, with a count within its rows
  pub record Within (e : Entry d.Item) : Type 0 where
    pub allowed : d.refuse e.item ≡ passed
    pub counted_rows : e.count ≤ d.rows e.item

  -- the later figure has painted no row that e owes
  abbrev pub NotAhead : Entry d.Item → Entry d.Item → Type 0
  NotAhead e later = (y : ℤ) → owes d e y ≡ true → has_painted d later y ≡ true → ⊥

  -- the book is in order
  pub record InOrder (book : Book d) : Type 0 where
    pub few : length book ≤ d.max_layers
    pub within : Each Within book
    pub order : EachTwo NotAhead book

  pub empty_book_in_order : InOrder []
  empty_book_in_order = record { few = omega arith; within = tt; order = tt }

  -- ---- what an accepted call says of the book
  -- an add call is accepted: the item is within limits, and there is a place left
  pub record Adding (book : Book d) (item : d.Item) : Type 0 where
    pub allowed : d.refuse item ≡ passed
    pub room : length book < d.max_layers

  pub add_accepted : (book : Book d) (item : d.Item) → book_answer d book (add item) ≡ passed → Adding book item
  unfolding book_answer
  add_accepted book item h =
      let full : Bool = leb d.max_layers (length book) in
      record {
        allowed = passed_first (d.refuse item) (refuse_if full SheetFull) h;
        room = leb-false d.max_layers (length book)
            (passed_condition full SheetFull (passed_next (d.refuse item) (refuse_if full SheetFull) h));
      }

  -- a paint call is accepted: the entry is there, it has a row left, and no earlier one owes that row
  pub record Painting (book : Book d) (i : ℕ) : Type 0 where
    pub entry : Entry d.Item
    pub there : get_elem? book i ≡ some entry
    pub left : entry.count < d.rows entry.item
    pub free : some_owes d (take i book) (first_left d entry) ≡ false

  pub paint_accepted : (book : Book d) (i : ℕ) → book_answer d book (paint i) ≡ passed → Painting book i
  unfolding book_answer none_left
  paint_accepted book i h = by_entry (get_elem? book i) refl h
    where
      by_entry : (o : Option (Entry d.Item)) → get_elem? book i ≡ o → entry_answer d book i o ≡ passed → Painting book i
      by_entry none p q = absurd (refused_apart q)
      by_entry (some e) p q =
          let owed : Bool = some_owes d (take i book) (first_left d e) in
          let eleven = refuse_if (none_left d e) NoRowLeft in
          let twelve = refuse_if owed RowOwed in
          record {
            entry = e;
            there = p;
            left = leb-false (d.rows e.item) e.count
                (passed_condition (none_left d e) NoRowLeft (passed_first eleven twelve q));
            free = passed_condition owed RowOwed (passed_next eleven twelve q);
          }

  -- a removal is accepted: the entry is there
  pub record Removing (book : Book d) (i : ℕ) : Type 0 where
    pub entry : Entry d.Item
    pub there : get_elem? book i ≡ some entry

  pub remove_accepted : (book : Book d) (i : ℕ) (background : List ℕ) → book_answer d book (remove i background) ≡ passed
      → Removing book i
  unfolding book_answer
  remove_accepted book i background h =
      let within = leb-false (length book) i (passed_condition (leb (length book) i) NoLayer h) in
      let found = element_there book i within in
      record { entry = found.0; there = found.1 }

  -- ---- the order is kept
  pub in_order_add : (book : Book d) (item : d.Item) → InOrder book → Adding book item
      → InOrder (book ++ (record { item = item; count = 0 } ∷ []))
  in_order_add book item ordered a =
      let e : Entry d.Item = record { item = item; count = 0 } in
      record {
        few = omega (arith, ordered.few, a.room, length-append book (e ∷ []));
        within = each_append Within book (e ∷ []) ordered.within
            (record { allowed = a.allowed; counted_rows = omega arith }, tt);
        order = each_two_last NotAhead book e
            (each_of_every (λ x. NotAhead x e)
            (λ x y owed painted. true_false_apart painted (new_entry_painted_none d item y))
            book)
            ordered.order;
      }

  not_ahead_one_more : (e x : Entry d.Item) → owes d x (first_left d e) ≡ false → NotAhead x e → NotAhead x (one_more d e)
  not_ahead_one_more e x free behind y owed painted = by_row (ℤ_discrete y (first_left d e))
    where
      by_row : Dec (y ≡ first_left d e) → ⊥
      by_row (yes here) = true_false_apart owed (ap (owes d x) here ∙ free)
      by_row (no other) = behind y owed (sym (one_more_painted_other d e y other) ∙ painted)

  pub in_order_one_more : (before : Book d) (e : Entry d.Item) (later : Book d) → InOrder (before ++ e ∷ later)
      → e.count < d.rows e.item → some_owes d before (first_left d e) ≡ false → InOrder (before ++ one_more d e ∷ later)
  in_order_one_more before e later ordered left free =
      let w = each_right Within before (e ∷ later) ordered.within in
      record {
        few = omega (arith, ordered.few, length-append before (e ∷ later), length-append before (one_more d e ∷ later));
        within = each_append Within before (one_more d e ∷ later) (each_left Within before (e ∷ later) ordered.within)
            (record { allowed = w.0.allowed; counted_rows = left }, w.1);
        order = each_two_replace NotAhead before e (one_more d e) later (λ x c y owed. c y (one_more_owes d e y owed))
            (each_implies (λ x. owes d x (first_left d e) ≡ false) (λ x. NotAhead x e → NotAhead x (one_more d e))
            (not_ahead_one_more e)
            before
            (none_owes_each d before (first_left d e) free))
            ordered.order;
      }

  pub in_order_paint : (book : Book d) (i : ℕ) → InOrder book → (p : Painting book i)
      → InOrder (set book i (one_more d p.entry))
  in_order_paint book i ordered p =
      rw (set_at_element book i p.entry (one_more d p.entry) p.there)
      (in_order_one_more (take i book) p.entry (drop (suc i) book)
      (subst InOrder (split_at_element book i p.entry p.there) ordered)
      p.left
      p.free)

  pub in_order_without : (before : Book d) (e : Entry d.Item) (later : Book d) → InOrder (before ++ e ∷ later)
      → InOrder (before ++ later)
  in_order_without before e later ordered =
      record {
        few = omega (arith, ordered.few, length-append before (e ∷ later), length-append before later);
        within = each_append Within before later (each_left Within before (e ∷ later) ordered.within)
            (each_right Within before (e ∷ later) ordered.within).1;
        order = each_two_without NotAhead before e later ordered.order;
      }

  pub in_order_remove : (book : Book d) (i : ℕ) → InOrder book → Removing book i → InOrder (without i book)
  in_order_remove book i ordered r =
      in_order_without (take i book) r.entry (drop (suc i) book)
      (subst InOrder (split_at_element book i r.entry r.there) ordered)

  pub in_order_after : (book : Book d) (call : Call d.Item) → InOrder book → InOrder (book_after d book call)
  unfolding book_after noted
  in_order_after book call ordered = by_answer (book_answer d book call) refl
    where
      when_noted : (c : Call d.Item) → book_answer d book c ≡ passed → InOrder (noted d book c)
      when_noted (add item) h = in_order_add book item ordered (add_accepted book item h)
      when_noted (paint i) h = let p = paint_accepted book i h in rw p.there (in_order_paint book i ordered p)
      when_noted (remove i background) h = in_order_remove book i ordered (remove_accepted book i background h)

      by_answer : (a : Checked) → book_answer d book call ≡ a → InOrder (keeping a book (noted d book call))
      by_answer (Ok _) h = when_noted call h
      by_answer (Err refusal) h = ordered
