-- The plain book of demand 3 (document 01, "The book"), over any drawing: what a figure with its style is, which rows it
-- has and how it overpaints a canvas row stand in the record `Drawing`. The order is the paper's. What a call answers ("The
-- records", below the table) is said as a check's result is, in the words of `refusal`: `passed` where it is accepted, or
-- `Err` of a row of the table.
-- Assumes nothing.
use Rattle.std.specs.Prelude.{◌≡◌, List, [], ◌∷◌, ◌++◌, Bool, false, cond, not, ◌&&◌, ◌||◌, ℕ, suc, leb, ℤ, pos, ◌+ℤ◌, length, take, drop, set, Err}
use Rattle.std.proofs.Math.Option.{Option, none, some}
use Rattle.std.specs.Int.Signed.{le_z, lt_z}
use Rattle.std.proofs.Math.ListN.{get_elem?}
use Rattle.refusal.specs.declared.Refusal.TheVariants.{SheetFull, NoLayer, NoRowLeft, RowOwed}
use Rattle.refusal.specs.Refusal.{refuse_if, or_else, keeping, Checked}

-- The run a..b (document 01, first lines): from a up to but not including b.
abbrev pub in_run : ℤ → ℤ → ℤ → Bool
in_run a b y = le_z a y && lt_z y b

-- A list without its element i: those before it, and those behind it, each of which moves down one number (document 02,
-- "Five").
abbrev pub without : {A : Type 0} → ℕ → List A → List A
without i l = take i l ++ drop (suc i) l

-- What the book has to know of figures and canvases. Every definition below takes it as its first argument.
pub record Drawing : Type 1 where
  -- a figure with its style ("The records")
  pub Item : Type 0
  -- the lowest of the numbers 1, 2, 3 and 5 that applies to it ("The records", the table)
  pub refuse : Item → Checked
  -- the first row of its stroke area, or the area's top if that has no row, and how many rows it has ("Sheet")
  pub first : Item → ℤ
  pub rows : Item → ℕ
  -- a canvas row overpainted by its styled row there ("The book"), which sets bytes in place
  pub over : Item → ℤ → List ℕ → List ℕ
  pub over_length : (item : Item) (y : ℤ) (row : List ℕ) → length (over item y row) ≡ length row
  -- the largest number of layers, and of columns or rows of a canvas ("The records")
  pub max_layers : ℕ
  pub max_side : ℕ

-- The calls of demand 3, with their arguments other than the sheet and its canvas ("The book"; document 02, "Five"): an item
-- is added; a row of the layer with this number, counted from 0, is painted; or the layer with this number is removed, with
-- this background.
pub data Call (A : Type 0) : Type 0 where
  add : A → Call A
  paint : ℕ → Call A
  remove : ℕ → List ℕ → Call A

-- A figure noted with its style, and its count ("The book").
pub record Entry (A : Type 0) : Type 0 where
  pub item : A
  pub count : ℕ

module _ (d : Drawing) where
  -- The book: the entries in the order of adding ("The book"). It is `[]` at opening.
  abbrev pub Book : Type 0
  Book = List (Entry d.Item)

  -- The row after an item's last, which is its first row where it has none ("Sheet").
  abbrev pub end_row : d.Item → ℤ
  end_row item = d.first item +ℤ pos (d.rows item)

  -- y is among the rows of an item, which are those of its stroke area ("Sheet").
  unfoldable pub has_row : d.Item → ℤ → Bool
  has_row item y = in_run (d.first item) (end_row item) y

  -- The first row that an entry has left ("The book"): those above it, from its first row on, are as many as its count.
  abbrev pub first_left : Entry d.Item → ℤ
  first_left e = d.first e.item +ℤ pos e.count

  -- "Has painted" ("The book"): y is from the first row on, and above the first that is left.
  unfoldable pub has_painted : Entry d.Item → ℤ → Bool
  has_painted e y = in_run (d.first e.item) (first_left e) y

  -- "Left" ("The book"): y is a row of the item, and none that the entry has painted.
  unfoldable pub is_left : Entry d.Item → ℤ → Bool
  is_left e y = has_row e.item y && not (has_painted e y)

  -- "Owes" ("The book"): each row that is left.
  abbrev pub owes : Entry d.Item → ℤ → Bool
  owes e y = is_left e y

  -- Some entry of a book owes y ("The book", number 12).
  unfoldable pub some_owes : Book → ℤ → Bool
  some_owes [] y = false
  some_owes (e ∷ rest) y = owes e y || some_owes rest y

  -- An entry has no row left ("The book", number 11): the count has come to the number of its rows.
  unfoldable pub none_left : Entry d.Item → Bool
  none_left e = leb (d.rows e.item) e.count

  -- The answer to a paint call, by the entry that stands at its number ("The book"): 10, then 11, then 12.
  abbrev pub entry_answer : Book → ℕ → Option (Entry d.Item) → Checked
  entry_answer book i none = Err NoLayer
  entry_answer book i (some e) =
      or_else (refuse_if (none_left e) NoRowLeft) (refuse_if (some_owes (take i book) (first_left e)) RowOwed)

  -- The book's answer to a call ("The book"). To an add call: the drawing's own refusal, else 9 by the figures noted. To a
  -- removal of layer i (document 02, "Five"): 10 if no more than i figures are noted.
  unfoldable pub book_answer : Book → Call d.Item → Checked
  book_answer book (add item) = or_else (d.refuse item) (refuse_if (leb d.max_layers (length book)) SheetFull)
  book_answer book (paint i) = entry_answer book i (get_elem? book i)
  book_answer book (remove i background) = refuse_if (leb (length book) i) NoLayer

  -- One more row of the entry at i is painted: its count grows by 1 ("The book").
  abbrev pub counted : Book → ℕ → Option (Entry d.Item) → Book
  counted book i none = book
  counted book i (some e) = set book i (record { item = e.item; count = suc e.count })

  -- An accepted call in the book ("The book"): the item is noted at the end with count 0, or a row is counted, or figure i
  -- is struck out with its count, whether or not it has rows left (document 02, "Five").
  unfoldable pub noted : Book → Call d.Item → Book
  noted book (add item) = book ++ (record { item = item; count = 0 } ∷ [])
  noted book (paint i) = counted book i (get_elem? book i)
  noted book (remove i background) = without i book

  -- The book after a call ("The book"): a refused one leaves it as it is.
  unfoldable pub book_after : Book → Call d.Item → Book
  book_after book call = keeping (book_answer book call) book (noted book call)

  -- The answers to a list of calls, each by the book that the calls before it leave (demand 3).
  unfoldable pub book_answers : Book → List (Call d.Item) → List Checked
  book_answers book [] = []
  book_answers book (call ∷ calls) = book_answer book call ∷ book_answers (book_after book call) calls

  -- The book after a list of calls (demand 3).
  unfoldable pub book_after_all : Book → List (Call d.Item) → Book
  book_after_all book [] = book
  book_after_all book (call ∷ calls) = book_after_all (book_after book call) calls

  -- The figures that have painted row y, in the order of adding (demand 3).
  unfoldable pub painters : Book → ℤ → List d.Item
  painters [] y = []
  painters (e ∷ rest) y = cond (has_painted e y) (e.item ∷ painters rest y) (painters rest y)

  -- A canvas row overpainted at y by several items, the first in the list first (demand 3, "The book").
  unfoldable pub overpainted : List d.Item → ℤ → List ℕ → List ℕ
  overpainted [] y row = row
  overpainted (item ∷ items) y row = overpainted items y (d.over item y row)
