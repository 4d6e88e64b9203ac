-- Demand 3 holds of every drawing. From a sheet just opened, whose book is empty, the two halves of the invariant hold
-- after every list of calls, by one call at a time; from them each clause of the statement follows.
-- Assumes nothing.
use Rattle.std.specs.Prelude.{Err}
use mathlib.Core.Path.{◌≡◌, refl, sym, ap, ap₂, ◌∙◌}
use mathlib.Core.Logic.{◌≢◌, ◌⊎◌, inl, inr}
use mathlib.Core.List.{List, [], ◌∷◌, ◌++◌}
use mathlib.Core.Bool.{Bool, true, false}
use Prim.Native.Nat.{ℕ, ◌*◌}
use lib.ListN.{length}
use lib.Seq.{take-append_seam}
use Rattle.refusal.specs.declared.Refusal.TheVariants.{NoRowLeft as Refusal-as-NoRowLeft, RowOwed}
use Rattle.refusal.specs.Refusal.{refuse_if, or_else, Checked, passed}
use Rattle.refusal.proofs.Checks.{refused_apart}
use Rattle.book.specs.Each.{Each}
use Rattle.book.specs.Book.{Drawing, Call, add, paint, remove}
use Rattle.book.specs.Book.{Entry, Book, first_left, owes, some_owes, none_left, book_answer, book_after, book_answers}
use Rattle.book.specs.Book.{book_after_all}
use Rattle.book.specs.Sheet.{State, WithinSide, answer, answers, after_all, opened}
use Rattle.book.specs.Demand3.{NoRowLeft, SomeRowLeft, OwedBy, AfterCalls, OverLent, Demand3}
use Rattle.book.proofs.EachLaws.{each_implies}
use Rattle.book.proofs.Lists.{element_at_seam}
use Rattle.book.proofs.EntryRows.{none_left_iff, some_left_not_none, some_owes_owed, owed_some_owes}
use Rattle.book.proofs.EntryRows.{each_owes_none}
use Rattle.book.proofs.BookInOrder.{InOrder, empty_book_in_order, in_order_after}
use Rattle.book.proofs.SheetOfBook.{sheet_of, in_order_rules, Fits, answer_is_book, canvas_after, after_is_book}
use Rattle.book.proofs.Picture.{Shows, lent_shows_empty, shows_after, canvas_after_length}

module _ (d : Drawing) where
  -- ---- when the book refuses a paint call for a figure noted
  module _ (before : Book d) (e : Entry d.Item) (later : Book d) where
    abbrev paint_answer : Checked
    paint_answer = book_answer d (before ++ e ∷ later) (paint (length before))

    paint_answer_is : paint_answer
        ≡ or_else (refuse_if (none_left d e) Refusal-as-NoRowLeft) (refuse_if (some_owes d before (first_left d e)) RowOwed)
    unfolding book_answer
    paint_answer_is = rw (element_at_seam before e later, take-append_seam before (e ∷ later))

    book_refused_only : paint_answer ≢ passed → NoRowLeft d e ⊎ OwedBy d before (first_left d e)
    book_refused_only not_accepted = by_left (none_left d e) refl
      where
        by_owed : none_left d e ≡ false → (t : Bool) → some_owes d before (first_left d e) ≡ t
            → NoRowLeft d e ⊎ OwedBy d before (first_left d e)
        by_owed l true o = inr (some_owes_owed d before (first_left d e) o)
        by_owed l false o = absurd (not_accepted (paint_answer_is ∙ rw (l, o)))

        by_left : (t : Bool) → none_left d e ≡ t → NoRowLeft d e ⊎ OwedBy d before (first_left d e)
        by_left true l = inl ((none_left_iff d e).0 l)
        by_left false l = by_owed l (some_owes d before (first_left d e)) refl

    owed_refused : (t : Bool) → or_else (refuse_if t Refusal-as-NoRowLeft) (Err RowOwed) ≢ passed
    owed_refused true q = refused_apart q
    owed_refused false q = refused_apart q

    book_refused_if : NoRowLeft d e ⊎ OwedBy d before (first_left d e) → paint_answer ≢ passed
    book_refused_if (inl none) q =
        let said : paint_answer ≡ Err Refusal-as-NoRowLeft = paint_answer_is ∙ rw ((none_left_iff d e).1 none) in
        refused_apart (sym said ∙ q)
    book_refused_if (inr o) q =
        owed_refused (none_left d e)
        (sym (paint_answer_is ∙ rw (owed_some_owes d o.0 before (first_left d e) o.1 o.2)) ∙ q)

    book_earliest_accepted : Each (NoRowLeft d) before → SomeRowLeft d e → paint_answer ≡ passed
    book_earliest_accepted none some =
        let free : some_owes d before (first_left d e) ≡ false =
        each_owes_none d before (first_left d e)
        (each_implies (NoRowLeft d) (λ x. owes d x (first_left d e) ≡ false) (λ x h. h (first_left d e)) before none) in
        paint_answer_is ∙ rw (some_left_not_none d e some, free)

  -- ---- one call after another
  module _ (W H : ℕ) (width : WithinSide d W) (height : WithinSide d H) where
    -- from any book in order, and any canvas of the size: the answers need nothing of the picture
    pub answers_are_book : (calls : List (Call d.Item)) → Each (Fits d W H) calls → (book : Book d) (canvas : List ℕ)
        → InOrder d book → length canvas ≡ W * H → answers d W H (sheet_of d book canvas) calls ≡ book_answers d book calls
    unfolding answers book_answers
    answers_are_book [] fit book canvas ordered size = refl
    answers_are_book (call ∷ calls) fit book canvas ordered size =
        ap₂ {C = List Checked} (λ a rest. a ∷ rest) (answer_is_book d W H width height book canvas ordered size call fit.0)
        (ap (λ (t : State d.Item). answers d W H t calls)
        (after_is_book d W H width height book canvas ordered size call fit.0)
        ∙ answers_are_book calls fit.1 (book_after d book call) (canvas_after d W H book canvas call)
        (in_order_after d book call ordered)
        (canvas_after_length d W H book canvas call fit.0 size))

    module _ (lent : List ℕ) (long : length lent ≡ W * H) where
      -- the canvas as first lent has the length of the canvas
      over_lent_fits : (call : Call d.Item) → OverLent d lent call → Fits d W H call
      over_lent_fits (add item) o = tt
      over_lent_fits (paint i) o = tt
      over_lent_fits (remove i background) o = ap length o ∙ long

      -- both halves of the invariant, of a sheet with its canvas and a book
      pub record Reached (s : State d.Item) (book : Book d) : Type 0 where
        pub canvas : List ℕ
        pub sheet : s ≡ sheet_of d book canvas
        pub in_order : InOrder d book
        pub shows : Shows d W H lent book canvas

      pub reached_after : (calls : List (Call d.Item)) → Each (OverLent d lent) calls → (book : Book d) (canvas : List ℕ)
          → InOrder d book → Shows d W H lent book canvas
          → Reached (after_all d W H (sheet_of d book canvas) calls) (book_after_all d book calls)
      unfolding after_all book_after_all
      reached_after [] over book canvas ordered shown =
          record { canvas = canvas; sheet = refl; in_order = ordered; shows = shown }
      reached_after (call ∷ calls) over book canvas ordered shown =
          rw (after_is_book d W H width height book canvas ordered shown.size call (over_lent_fits call over.0))
          (reached_after calls over.1 (book_after d book call) (canvas_after d W H book canvas call)
          (in_order_after d book call ordered)
          (shows_after d W H lent long book canvas call over.0 ordered shown))

      pub opened_reaches : (calls : List (Call d.Item)) → Each (OverLent d lent) calls
          → Reached (after_all d W H (opened d lent) calls) (book_after_all d [] calls)
      opened_reaches calls over =
          reached_after calls over [] lent (empty_book_in_order d) (lent_shows_empty d W H lent long)

      -- ---- what both halves say
      sheet_after_calls : (book : Book d) (canvas : List ℕ) → InOrder d book → Shows d W H lent book canvas
          → AfterCalls d W H lent (sheet_of d book canvas) book
      sheet_after_calls book canvas ordered shown =
          record {
            picture = shown.row;
            refused_exactly = λ before e later split.
                let a = answer_at before e later split in (
                  λ h. book_refused_only before e later (λ z. h (a ∙ z)),
                  λ h z. book_refused_if before e later h (sym a ∙ z),
                );
            earliest_accepted = λ before e later split none some.
                answer_at before e later split ∙ book_earliest_accepted before e later none some;
            next_rows = refl;
            rules = in_order_rules d W H width height book ordered;
            canvas_length = shown.size;
          }
        where
          answer_at : (before : Book d) (e : Entry d.Item) (later : Book d) → book ≡ before ++ e ∷ later
              → answer d W H (sheet_of d book canvas) (paint (length before))
              ≡ book_answer d (before ++ e ∷ later) (paint (length before))
          answer_at before e later split =
              answer_is_book d W H width height book canvas ordered shown.size (paint (length before)) tt
              ∙ ap (λ (t : Book d). book_answer d t (paint (length before))) split

      pub reached_after_calls : (s : State d.Item) (book : Book d) → Reached s book → AfterCalls d W H lent s book
      reached_after_calls s book r = rw r.sheet (sheet_after_calls book r.canvas r.in_order r.shows)

  pub demand3 : Demand3 d
  demand3 W H width height lent size calls over =
      record {
        answered = answers_are_book W H width height calls
            (each_implies (OverLent d lent) (Fits d W H) (over_lent_fits W H width height lent size) calls over)
            [] lent (empty_book_in_order d) size;
        reached = reached_after_calls W H width height lent size (after_all d W H (opened d lent) calls)
            (book_after_all d [] calls)
            (opened_reaches W H width height lent size calls over);
      }
