-- The half of the invariant that the picture needs: each canvas row is the row as first lent, overpainted by the figures
-- that have painted it, in the order of adding. In a book in order, an accepted paint call puts its figure last among
-- those that have painted its row, since no later figure has painted a row that it owes; other rows stay. A removal shows the
-- rows that its figure had painted anew over the background, by the other figures; on other rows the figure was not.
-- Assumes nothing.
use Rattle.std.specs.Prelude.{Ok, Err}
use mathlib.Core.Path.{◌≡◌, refl, sym, ap, ap₂, ◌∙◌, subst}
use mathlib.Core.List.{List, [], ◌∷◌, ◌++◌, map, append-nil}
use mathlib.Core.Option.{Option, none, some}
use mathlib.Core.Bool.{Bool, true, false, cond}
use Prim.Native.Nat.{ℕ, suc, ◌*◌, ◌<◌}
use lib.Dec.{ltb}
use lib.IntN.{ℤ, pos, negsuc, ℤ_discrete}
use lib.ListN.{length, take, drop, set, get_elem?}
use borrow.Author.Tests.{lt-ltb, ltb-true}
use Rattle.book.specs.Each.{Each}
use Rattle.book.specs.Canvas.{canvas_row, put_row}
use Rattle.refusal.specs.Refusal.{keeping, Checked, passed}
use Rattle.book.specs.Book.{without, Drawing, Call, add, paint, remove, Entry, Book}
use Rattle.book.specs.Book.{first_left, has_painted, book_answer, noted, book_after, painters, overpainted}
use Rattle.book.specs.Sheet.{Layer, Layers, with_row, paint_row, layer_has_painted, layer_painters, restored_row, restored}
use Rattle.book.specs.Demand3.{layer_of, OverLent}
use Rattle.book.proofs.Tests.{false_unless}
use Rattle.book.proofs.EachLaws.{each_implies, each_two_later}
use Rattle.book.proofs.Lists.{split_at_element, set_at_element}
use Rattle.book.proofs.CanvasRows.{canvas_row_length, put_row_length, put_row_here, put_row_other}
use Rattle.book.proofs.CanvasRows.{canvas_of_length, canvas_of_row}
use Rattle.book.proofs.EntryRows.{one_more, one_more_painted_other, one_more_painted_here, first_left_not_painted}
use Rattle.book.proofs.EntryRows.{first_left_owed, new_entry_painted_none, layer_painted_is}
use Rattle.book.proofs.BookInOrder.{NotAhead, InOrder, Painting, paint_accepted, Removing, remove_accepted}
use Rattle.book.proofs.SheetOfBook.{Fits, canvas_painted, canvas_removed, canvas_carried_out, canvas_after}

module _ (d : Drawing) where
  -- ---- who has painted a row
  cond_append : (t : Bool) (item : d.Item) (l m n : List d.Item) → n ≡ l ++ m
      → cond t (item ∷ n) n ≡ cond t (item ∷ l) l ++ m
  cond_append true item l m n e = ap {B = List d.Item} (λ x. item ∷ x) e
  cond_append false item l m n e = e

  pub painters_append : (a b : Book d) (y : ℤ) → painters d (a ++ b) y ≡ painters d a y ++ painters d b y
  unfolding painters
  painters_append [] b y = refl
  painters_append (e ∷ a) b y =
      cond_append (has_painted d e y) e.item (painters d a y) (painters d b y) (painters d (a ++ b) y)
      (painters_append a b y)

  pub overpainted_append : (a b : List d.Item) (y : ℤ) (row : List ℕ)
      → overpainted d (a ++ b) y row ≡ overpainted d b y (overpainted d a y row)
  unfolding overpainted
  overpainted_append [] b y row = refl
  overpainted_append (item ∷ a) b y row = overpainted_append a b y (d.over item y row)

  no_painters : (book : Book d) (y : ℤ) → Each (λ e. has_painted d e y ≡ false) book → painters d book y ≡ []
  unfolding painters
  no_painters [] y h = refl
  no_painters (e ∷ rest) y h = rw h.0 (no_painters rest y h.1)

  pub painters_add : (book : Book d) (item : d.Item) (y : ℤ)
      → painters d (book ++ (record { item = item; count = 0 } ∷ [])) y ≡ painters d book y
  unfolding painters
  painters_add book item y =
      painters_append book (record { item = item; count = 0 } ∷ []) y
      ∙ rw (new_entry_painted_none d item y) (append-nil (painters d book y))

  module _ (before : Book d) (e : Entry d.Item) (later : Book d) where
    pub painters_one_more_other : (y : ℤ) → (y ≡ first_left d e → ⊥)
        → painters d (before ++ one_more d e ∷ later) y ≡ painters d (before ++ e ∷ later) y
    unfolding painters
    painters_one_more_other y other =
        painters_append before (one_more d e ∷ later) y
        ∙ rw (one_more_painted_other d e y other) (sym (painters_append before (e ∷ later) y))

    pub painters_one_more_here : InOrder d (before ++ e ∷ later) → e.count < d.rows e.item
        → painters d (before ++ one_more d e ∷ later) (first_left d e)
        ≡ painters d (before ++ e ∷ later) (first_left d e) ++ (e.item ∷ [])
    unfolding painters
    painters_one_more_here ordered left =
        let y : ℤ = first_left d e in
        let none_later : painters d later y ≡ [] =
        no_painters later y
        (each_implies (NotAhead d e) (λ x. has_painted d x y ≡ false)
        (λ x c. false_unless (has_painted d x y) (c y (first_left_owed d e left)))
        later
        (each_two_later (NotAhead d) before e later ordered.order)) in
        painters_append before (one_more d e ∷ later) y
        ∙ rw (
          one_more_painted_here d e,
          none_later,
          painters_append before (e ∷ later) y,
          first_left_not_painted d e,
          none_later,
          append-nil (painters d before y),
        )

  -- a figure that had not painted a row was not among those that had
  pub painters_without : (before : Book d) (e : Entry d.Item) (later : Book d) (y : ℤ) → has_painted d e y ≡ false
      → painters d (before ++ later) y ≡ painters d (before ++ e ∷ later) y
  unfolding painters
  painters_without before e later y not_painted =
      painters_append before later y ∙ sym (painters_append before (e ∷ later) y ∙ rw not_painted)

  -- the layers of a book that have painted a row are its figures that have
  layer_painters_are : (book : Book d) (y : ℤ) → layer_painters d (map (layer_of d) book) y ≡ painters d book y
  unfolding layer_painters painters
  layer_painters_are [] y = refl
  layer_painters_are (e ∷ rest) y =
      ap₂ (λ (t : Bool) (items : List d.Item). cond t (e.item ∷ items) items) (layer_painted_is d e y)
      (layer_painters_are rest y)

  pub overpainted_length : (items : List d.Item) (y : ℤ) (row : List ℕ) → length (overpainted d items y row) ≡ length row
  unfolding overpainted
  overpainted_length [] y row = refl
  overpainted_length (item ∷ items) y row = overpainted_length items y (d.over item y row) ∙ d.over_length item y row

  -- ---- a row written onto the canvas
  module _ (W H : ℕ) where
    over_row_length : (item : d.Item) (y : ℕ) (canvas : List ℕ) → length canvas ≡ W * H → y < H
        → length (d.over item (pos y) (canvas_row W y canvas)) ≡ W
    over_row_length item y canvas size low =
        d.over_length item (pos y) (canvas_row W y canvas) ∙ canvas_row_length W H y canvas low size

    pub paint_row_length : (item : d.Item) (z : ℤ) (canvas : List ℕ) → length canvas ≡ W * H
        → length (paint_row d W H item z canvas) ≡ W * H
    unfolding with_row
    paint_row_length item (pos y) canvas size = by_test (ltb y H) refl
      where
        row : List ℕ
        row = d.over item (pos y) (canvas_row W y canvas)

        by_test : (t : Bool) → ltb y H ≡ t → length (cond t (put_row W y row canvas) canvas) ≡ W * H
        by_test true e =
            let low = ltb-true y H e in
            put_row_length W H y canvas low size row (over_row_length item y canvas size low)
        by_test false e = size
    paint_row_length item (negsuc y) canvas size = size

    pub paint_row_here : (item : d.Item) (y : ℕ) (canvas : List ℕ) → length canvas ≡ W * H → y < H
        → canvas_row W y (paint_row d W H item (pos y) canvas) ≡ d.over item (pos y) (canvas_row W y canvas)
    unfolding with_row
    paint_row_here item y canvas size low =
        rw (lt-ltb y H low)
        (put_row_here W H y canvas low size (d.over item (pos y) (canvas_row W y canvas))
        (over_row_length item y canvas size low))

    pub paint_row_other : (item : d.Item) (z : ℤ) (y : ℕ) (canvas : List ℕ) → length canvas ≡ W * H → y < H
        → (pos y ≡ z → ⊥) → canvas_row W y (paint_row d W H item z canvas) ≡ canvas_row W y canvas
    unfolding with_row
    paint_row_other item (pos z) y canvas size low other = by_test (ltb z H) refl
      where
        row : List ℕ
        row = d.over item (pos z) (canvas_row W z canvas)

        by_test : (t : Bool) → ltb z H ≡ t → canvas_row W y (cond t (put_row W z row canvas) canvas) ≡ canvas_row W y canvas
        by_test true e =
            let on_canvas = ltb-true z H e in
            let wide = over_row_length item z canvas size on_canvas in
            put_row_other W H z canvas on_canvas size row wide y low (λ q. other (ap pos q))
        by_test false e = refl
    paint_row_other item (negsuc z) y canvas size low other = refl

    -- ---- the rows of a layer that is removed
    module _ (l : Layer d.Item) (others : Layers d) (background canvas : List ℕ) (long : length background ≡ W * H)
        (size : length canvas ≡ W * H) where
      restored_row_length : (y : ℕ) → y < H → length (restored_row d W l others background canvas y) ≡ W
      unfolding restored_row
      restored_row_length y low = by_test (layer_has_painted d l (pos y))
        where
          row : List ℕ
          row = overpainted d (layer_painters d others (pos y)) (pos y) (canvas_row W y background)

          by_test : (t : Bool) → length (cond t row (canvas_row W y canvas)) ≡ W
          by_test true =
              overpainted_length (layer_painters d others (pos y)) (pos y) (canvas_row W y background)
              ∙ canvas_row_length W H y background low long
          by_test false = canvas_row_length W H y canvas low size

      pub restored_length : length (restored d W H (some l) others background canvas) ≡ W * H
      restored_length = canvas_of_length W (restored_row d W l others background canvas) H restored_row_length

      pub restored_row_lem : (y : ℕ) → y < H
          → canvas_row W y (restored d W H (some l) others background canvas) ≡ restored_row d W l others background canvas y
      restored_row_lem = canvas_of_row W (restored_row d W l others background canvas) H restored_row_length

    pub canvas_after_length : (book : Book d) (canvas : List ℕ) (call : Call d.Item) → Fits d W H call
        → length canvas ≡ W * H → length (canvas_after d W H book canvas call) ≡ W * H
    unfolding canvas_after
    canvas_after_length book canvas call fits size = by_answer (book_answer d book call)
      where
        by_entry : (o : Option (Entry d.Item)) → length (canvas_painted d W H canvas o) ≡ W * H
        by_entry none = size
        by_entry (some e) = paint_row_length e.item (first_left d e) canvas size

        by_removed : (others : Book d) (background : List ℕ) → length background ≡ W * H → (o : Option (Entry d.Item))
            → length (canvas_removed d W H others background canvas o) ≡ W * H
        by_removed others background long none = size
        by_removed others background long (some e) =
            restored_length (layer_of d e) (map (layer_of d) others) background canvas long size

        by_call : (c : Call d.Item) → Fits d W H c → length (canvas_carried_out d W H book canvas c) ≡ W * H
        by_call (add item) fits = size
        by_call (paint i) fits = by_entry (get_elem? book i)
        by_call (remove i background) fits = by_removed (without i book) background fits (get_elem? book i)

        by_answer : (a : Checked) → length (keeping a canvas (canvas_carried_out d W H book canvas call)) ≡ W * H
        by_answer (Ok _) = by_call call fits
        by_answer (Err refusal) = size

    -- ---- the canvas shows the book over the canvas as first lent
    pub record Shows (lent : List ℕ) (book : Book d) (canvas : List ℕ) : Type 0 where
      pub size : length canvas ≡ W * H
      pub row : (y : ℕ) → y < H
          → canvas_row W y canvas ≡ overpainted d (painters d book (pos y)) (pos y) (canvas_row W y lent)

    pub lent_shows_empty : (lent : List ℕ) → length lent ≡ W * H → Shows lent [] lent
    unfolding overpainted painters
    lent_shows_empty lent size = record { size = size; row = λ y low. refl }

    module _ (lent : List ℕ) where
      -- row y as the book has it
      abbrev pub shown_row : Book d → ℕ → List ℕ
      shown_row book y = overpainted d (painters d book (pos y)) (pos y) (canvas_row W y lent)

      painters_row : (y : ℕ) {l m : List d.Item} → l ≡ m
          → overpainted d l (pos y) (canvas_row W y lent) ≡ overpainted d m (pos y) (canvas_row W y lent)
      painters_row y e = ap (λ (l : List d.Item). overpainted d l (pos y) (canvas_row W y lent)) e

      pub shows_add : (book : Book d) (item : d.Item) (canvas : List ℕ) → Shows lent book canvas
          → Shows lent (book ++ (record { item = item; count = 0 } ∷ [])) canvas
      shows_add book item canvas shown =
          record {
            size = shown.size;
            row = λ y low. shown.row y low ∙ painters_row y (sym (painters_add book item (pos y)));
          }

      pub shows_one_more : (before : Book d) (e : Entry d.Item) (later : Book d) (canvas : List ℕ)
          → InOrder d (before ++ e ∷ later) → e.count < d.rows e.item → Shows lent (before ++ e ∷ later) canvas
          → Shows lent (before ++ one_more d e ∷ later) (paint_row d W H e.item (first_left d e) canvas)
      unfolding overpainted
      shows_one_more before e later canvas ordered left shown =
          record {
            size = paint_row_length e.item (first_left d e) canvas shown.size;
            row = λ y low. by_row y low (ℤ_discrete (pos y) (first_left d e));
          }
        where
          old : Book d
          old = before ++ e ∷ later

          new : Book d
          new = before ++ one_more d e ∷ later

          put_last : (y : ℕ) → pos y ≡ first_left d e → painters d new (pos y) ≡ painters d old (pos y) ++ (e.item ∷ [])
          put_last y here = rw here (painters_one_more_here before e later ordered left)

          by_row : (y : ℕ) → y < H → Dec (pos y ≡ first_left d e)
              → canvas_row W y (paint_row d W H e.item (first_left d e) canvas) ≡ shown_row new y
          by_row y low (yes here) =
              ap (λ (z : ℤ). canvas_row W y (paint_row d W H e.item z canvas)) (sym here)
              ∙ paint_row_here e.item y canvas shown.size low
              ∙ ap (d.over e.item (pos y)) (shown.row y low)
              ∙ sym (overpainted_append (painters d old (pos y)) (e.item ∷ []) (pos y) (canvas_row W y lent))
              ∙ painters_row y (sym (put_last y here))
          by_row y low (no other) =
              paint_row_other e.item (first_left d e) y canvas shown.size low other
              ∙ shown.row y low
              ∙ painters_row y (sym (painters_one_more_other before e later (pos y) other))

      pub shows_paint : (book : Book d) (i : ℕ) (canvas : List ℕ) → InOrder d book → (p : Painting d book i)
          → Shows lent book canvas
          → Shows lent (set book i (one_more d p.entry)) (paint_row d W H p.entry.item (first_left d p.entry) canvas)
      shows_paint book i canvas ordered p shown =
          let split = split_at_element book i p.entry p.there in
          rw (set_at_element book i p.entry (one_more d p.entry) p.there)
          (shows_one_more (take i book) p.entry (drop (suc i) book) canvas (subst (InOrder d) split ordered) p.left
          (subst (λ (t : Book d). Shows lent t canvas) split shown))

      -- without a figure, its rows restored over the canvas as first lent
      shows_without : length lent ≡ W * H → (before : Book d) (e : Entry d.Item) (later : Book d) (canvas : List ℕ)
          → Shows lent (before ++ e ∷ later) canvas
          → Shows lent (before ++ later) (canvas_removed d W H (before ++ later) lent canvas (some e))
      unfolding restored_row
      shows_without long before e later canvas shown =
          record {
            size = restored_length (layer_of d e) layers lent canvas long shown.size;
            row = λ y low.
                restored_row_lem (layer_of d e) layers lent canvas long shown.size y low
                ∙ by_row y low (layer_has_painted d (layer_of d e) (pos y)) refl;
          }
        where
          layers : Layers d
          layers = map (layer_of d) (before ++ later)

          by_row : (y : ℕ) → y < H → (t : Bool) → layer_has_painted d (layer_of d e) (pos y) ≡ t
              → cond t (overpainted d (layer_painters d layers (pos y)) (pos y) (canvas_row W y lent)) (canvas_row W y canvas)
              ≡ shown_row (before ++ later) y
          by_row y low true painted = painters_row y (layer_painters_are (before ++ later) (pos y))
          by_row y low false not_painted =
              shown.row y low
              ∙ painters_row y (sym (painters_without before e later (pos y) (sym (layer_painted_is d e (pos y)) ∙ not_painted)))

      pub shows_remove : length lent ≡ W * H → (book : Book d) (i : ℕ) (canvas : List ℕ) → (r : Removing d book i)
          → Shows lent book canvas
          → Shows lent (without i book) (canvas_removed d W H (without i book) lent canvas (some r.entry))
      shows_remove long book i canvas r shown =
          shows_without long (take i book) r.entry (drop (suc i) book) canvas
          (subst (λ (t : Book d). Shows lent t canvas) (split_at_element book i r.entry r.there) shown)

      pub shows_after : length lent ≡ W * H → (book : Book d) (canvas : List ℕ) (call : Call d.Item) → OverLent d lent call
          → InOrder d book → Shows lent book canvas
          → Shows lent (book_after d book call) (canvas_after d W H book canvas call)
      unfolding book_after noted canvas_after
      shows_after long book canvas call over_lent ordered shown = by_answer (book_answer d book call) refl
        where
          when_noted : (c : Call d.Item) → OverLent d lent c → book_answer d book c ≡ passed
              → Shows lent (noted d book c) (canvas_carried_out d W H book canvas c)
          when_noted (add item) over_lent h = shows_add book item canvas shown
          when_noted (paint i) over_lent h =
              let p = paint_accepted d book i h in
              rw p.there (shows_paint book i canvas ordered p shown)
          when_noted (remove i background) over_lent h =
              let r = remove_accepted d book i background h in
              let over : List ℕ → List ℕ = λ bytes. canvas_removed d W H (without i book) bytes canvas (get_elem? book i) in
              subst (λ (bytes : List ℕ). Shows lent (without i book) (over bytes)) (sym over_lent)
              (rw r.there (shows_remove long book i canvas r shown))

          by_answer : (a : Checked) → book_answer d book call ≡ a
              → Shows lent (keeping a book (noted d book call)) (keeping a canvas (canvas_carried_out d W H book canvas call))
          by_answer (Ok _) h = when_noted call over_lent h
          by_answer (Err refusal) h = shown
