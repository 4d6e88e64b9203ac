-- Demand 3 (document 00), as one statement over any drawing and whole lists of calls.
-- Assumes nothing.
use Rattle.refusal.specs.Refusal.{passed}
use Rattle.std.specs.Prelude.{◌≡◌, ◌↔◌, ◌≢◌, ◌⊎◌, true, false, ℕ, ◌*◌, ◌<◌, ℤ, pos, length}
use mathlib.Core.List.{List, [], ◌∷◌, ◌++◌, map, Memᴰ}
use Rattle.book.specs.Each.{Each}
use Rattle.book.specs.Canvas.{canvas_row}
use Rattle.book.specs.Book.{Drawing, Call, add, paint, remove, Entry, Book, first_left, is_left, owes, book_answers}
use Rattle.book.specs.Book.{book_after_all, painters, overpainted}
use Rattle.book.specs.Sheet.{Layer, State, WithinSide, Rules, answer, answers, after_all, opened}

module _ (d : Drawing) where
  -- The layer of an entry ("Sheet", "The book"): its next row is the first row that it has left.
  abbrev pub layer_of : Entry d.Item → Layer d.Item
  layer_of e = record { item = e.item; next = first_left d e }

  -- No row of an entry is left ("The book").
  abbrev pub NoRowLeft : Entry d.Item → Type 0
  NoRowLeft e = (y : ℤ) → is_left d e y ≡ false

  -- Some row of an entry is left ("The book").
  abbrev pub SomeRowLeft : Entry d.Item → Type 0
  SomeRowLeft e = (y : ℤ) × (is_left d e y ≡ true)

  -- Some entry of a book owes y ("The book").
  abbrev pub OwedBy : Book d → ℤ → Type 0
  OwedBy book y = (e : Entry d.Item) × Memᴰ e book × (owes d e y ≡ true)

  -- Demand 3 of the sheet and canvas s and the book that a list of calls leaves, with the canvas as first lent.
  pub record AfterCalls (W H : ℕ) (lent : List ℕ) (s : State d.Item) (book : Book d) : Type 0 where
    -- row y of the canvas: the lent row, and over it, the first added first, each figure still noted that has painted y and no other
    pub picture : (y : ℕ) → y < H
        → canvas_row W y s.canvas ≡ overpainted d (painters d book (pos y)) (pos y) (canvas_row W y lent)
    -- the paint call of a figure that is noted gets a number if the figure has no row left, or if one that is noted before
    -- it owes the first row that it has left, and only then
    pub refused_exactly : (before : Book d) (e : Entry d.Item) (later : Book d) → book ≡ before ++ e ∷ later
        → (answer d W H s (paint (length before)) ≢ passed) ↔ (NoRowLeft e ⊎ OwedBy before (first_left d e))
    -- the first figure that has a row left can go on: its paint call is accepted
    pub earliest_accepted : (before : Book d) (e : Entry d.Item) (later : Book d) → book ≡ before ++ e ∷ later
        → Each NoRowLeft before → SomeRowLeft e → answer d W H s (paint (length before)) ≡ passed
    -- the sheet's layers are the figures that are noted, each with the first row that it has left as its next row
    pub next_rows : s.layers ≡ map layer_of book
    -- the sheet keeps the rules
    pub rules : Rules d W H s.layers
    -- the canvas keeps its length
    pub canvas_length : length s.canvas ≡ W * H

  -- Demand 3 of one list of calls from a sheet just opened: its answers are the book's, and the rest holds after it.
  pub record Demand3Of (W H : ℕ) (lent : List ℕ) (calls : List (Call d.Item)) : Type 0 where
    pub answered : answers d W H (opened d lent) calls ≡ book_answers d [] calls
    pub reached : AfterCalls W H lent (after_all d W H (opened d lent) calls) (book_after_all d [] calls)

  -- The background of a removal is the canvas as first lent; other calls have none (document 02, "Five").
  abbrev pub OverLent : List ℕ → Call d.Item → Type 0
  OverLent lent (add item) = Unit {0}
  OverLent lent (paint i) = Unit {0}
  OverLent lent (remove i background) = background ≡ lent

  -- Demand 3: every W and H within limits, every canvas of that size with any bytes, every list of calls, each removal among
  -- them with that canvas as first lent for its background.
  abbrev pub Demand3 : Type 0
  Demand3 =
      (W H : ℕ) → WithinSide d W → WithinSide d H → (lent : List ℕ) → length lent ≡ W * H → (calls : List (Call d.Item))
      → Each (OverLent lent) calls → Demand3Of W H lent calls
