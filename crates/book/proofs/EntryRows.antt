-- The rows that an entry of the book has, has painted and owes, as runs: first..first left is painted, first left..end is
-- owed. A test of a run is two orders of signed numbers, which `omega (arith, int)` reads; a sum inside lists its law.
-- Assumes nothing.
use mathlib.Core.Path.{◌≡◌, refl, sym}
use mathlib.Core.Logic.{◌↔◌}
use mathlib.Core.List.{[], ◌∷◌, Memᴰ}
use mathlib.Core.Bool.{Bool, true, false, not, ◌&&◌, ◌||◌, true≢false, or-true}
use Prim.Native.Nat.{suc, ◌<◌}
use native.Mathlib.Omega.{arith}
use lib.Dec.{leb}
use lib.IntN.{ℤ, pos}
use lib.Signed.{le_z, lt_z}
use borrow.Author.Tests.{not-true}
use Rattle.signed.proofs.Laws.{int, add_law}
use Rattle.book.specs.Each.{Each}
use Rattle.book.specs.Book.{in_run, Drawing, Entry, Book, end_row, first_left, has_row, has_painted, is_left, owes}
use Rattle.book.specs.Book.{some_owes, none_left}
use Rattle.book.specs.Sheet.{layer_owes, layer_has_painted}
use Rattle.book.specs.Demand3.{layer_of, NoRowLeft, SomeRowLeft, OwedBy}
use Rattle.book.proofs.Tests.{and_true_parts, and_true_of, or_false_parts, true_unless, false_unless}
use Rattle.book.proofs.Tests.{true_false_apart, tests_equal}

-- y is in the run a..b
pub record InRun (a b y : ℤ) : Type 0 where
  pub from_start : le_z a y ≡ true
  pub before_end : lt_z y b ≡ true

pub run_true : (a b y : ℤ) → in_run a b y ≡ true → InRun a b y
run_true a b y e = let p = and_true_parts (le_z a y) (lt_z y b) e in record { from_start = p.0; before_end = p.1 }

pub run_holds : {a b y : ℤ} → InRun a b y → in_run a b y ≡ true
run_holds r = and_true_of r.from_start r.before_end

module _ (d : Drawing) where
  pub has_row_true : (item : d.Item) (y : ℤ) → has_row d item y ≡ true → InRun (d.first item) (end_row d item) y
  unfolding has_row
  has_row_true item y e = run_true (d.first item) (end_row d item) y e

  pub has_row_holds : (item : d.Item) (y : ℤ) → InRun (d.first item) (end_row d item) y → has_row d item y ≡ true
  unfolding has_row
  has_row_holds item y r = run_holds r

  -- an entry after one more row
  abbrev pub one_more : Entry d.Item → Entry d.Item
  one_more e = record { item = e.item; count = suc e.count }

  module _ (e : Entry d.Item) (y : ℤ) where
    pub painted_true : has_painted d e y ≡ true → InRun (d.first e.item) (first_left d e) y
    unfolding has_painted
    painted_true h = run_true (d.first e.item) (first_left d e) y h

    pub painted_holds : InRun (d.first e.item) (first_left d e) y → has_painted d e y ≡ true
    unfolding has_painted
    painted_holds r = run_holds r

    -- a row that is not painted, and not above the first, is past those that are
    not_painted_past : le_z (d.first e.item) y ≡ true → has_painted d e y ≡ false → le_z (first_left d e) y ≡ true
    not_painted_past low no_paint =
        true_unless (le_z (first_left d e) y)
        (λ above. true_false_apart (painted_holds (record { from_start = low; before_end = omega (arith, int) })) no_paint)

    pub owes_true : owes d e y ≡ true → InRun (first_left d e) (end_row d e.item) y
    unfolding is_left
    owes_true h =
        let p = and_true_parts (has_row d e.item y) (not (has_painted d e y)) h in
        let row = has_row_true e.item y p.0 in
        record {
          from_start = not_painted_past row.from_start (not-true (has_painted d e y) p.1);
          before_end = row.before_end;
        }

    pub owes_holds : InRun (first_left d e) (end_row d e.item) y → owes d e y ≡ true
    unfolding is_left
    owes_holds r =
        let low : le_z (d.first e.item) y ≡ true = omega (arith, int, add_law (d.first e.item) (pos e.count)) in
        let row = has_row_holds e.item y (record { from_start = low; before_end = r.before_end }) in
        let no_paint : has_painted d e y ≡ false =
        false_unless (has_painted d e y) (λ h. let p = painted_true h in absurd (omega (arith, int))) in
        rw (row, no_paint)

  -- ---- one row more
  module _ (e : Entry d.Item) where
    abbrev start : ℤ
    start = d.first e.item

    pub one_more_painted_other : (y : ℤ) → (y ≡ first_left d e → ⊥) → has_painted d (one_more e) y ≡ has_painted d e y
    one_more_painted_other y other = tests_equal (has_painted d (one_more e) y) (has_painted d e y) before_it with_it
      where
        before_it : has_painted d (one_more e) y ≡ true → has_painted d e y ≡ true
        before_it h =
            let p = painted_true (one_more e) y h in
            painted_holds e y
            (record {
              from_start = p.from_start;
              before_end = true_unless (lt_z y (first_left d e))
                  (λ past.
                  other (omega (arith, int, add_law start (pos e.count), add_law start (pos (suc e.count)))));
            })

        with_it : has_painted d e y ≡ true → has_painted d (one_more e) y ≡ true
        with_it h =
            let p = painted_true e y h in
            painted_holds (one_more e) y
            (record {
              from_start = p.from_start;
              before_end = omega (arith, int, add_law start (pos e.count), add_law start (pos (suc e.count)));
            })

    pub one_more_painted_here : has_painted d (one_more e) (first_left d e) ≡ true
    one_more_painted_here =
        painted_holds (one_more e) (first_left d e)
        (record {
          from_start = omega (arith, int, add_law start (pos e.count));
          before_end = omega (arith, int, add_law start (pos e.count), add_law start (pos (suc e.count)));
        })

    pub first_left_not_painted : has_painted d e (first_left d e) ≡ false
    first_left_not_painted =
        false_unless (has_painted d e (first_left d e))
        (λ h. let p = painted_true e (first_left d e) h in absurd (omega (arith, int)))

    pub one_more_owes : (y : ℤ) → owes d (one_more e) y ≡ true → owes d e y ≡ true
    one_more_owes y h =
        let p = owes_true (one_more e) y h in
        owes_holds e y
        (record {
          from_start = omega (arith, int, add_law start (pos e.count), add_law start (pos (suc e.count)));
          before_end = p.before_end;
        })

    -- ---- none left, some left
    pub first_left_owed : e.count < d.rows e.item → owes d e (first_left d e) ≡ true
    first_left_owed h =
        owes_holds e (first_left d e)
        (record {
          from_start = omega (arith, int);
          before_end = omega (arith, int, add_law start (pos e.count), add_law start (pos (d.rows e.item)));
        })

    pub owed_row_left : (y : ℤ) → owes d e y ≡ true → e.count < d.rows e.item
    owed_row_left y h =
        let p = owes_true e y h in
        omega (arith, int, add_law start (pos e.count), add_law start (pos (d.rows e.item)))

    pub some_left_not_none : SomeRowLeft d e → none_left d e ≡ false
    unfolding none_left
    some_left_not_none s = let h = owed_row_left s.0 s.1 in omega (arith, int)

    -- the test of number 11 is the paper's 'no row left'
    pub none_left_iff : (none_left d e ≡ true) ↔ NoRowLeft d e
    unfolding none_left
    none_left_iff = (no_row, all_counted)
      where
        no_row : leb (d.rows e.item) e.count ≡ true → NoRowLeft d e
        no_row h y = false_unless (is_left d e y) (λ o. let l = owed_row_left y o in omega (arith, int))

        all_counted : NoRowLeft d e → leb (d.rows e.item) e.count ≡ true
        all_counted h =
            true_unless (leb (d.rows e.item) e.count)
            (λ l. true_false_apart (first_left_owed (omega (arith, int))) (h (first_left d e)))

  pub new_entry_painted_none : (item : d.Item) (y : ℤ) → has_painted d (record { item = item; count = 0 }) y ≡ false
  new_entry_painted_none item y =
      false_unless (has_painted d (record { item = item; count = 0 }) y)
      (λ h.
      let p = painted_true (record { item = item; count = 0 }) y h in
      absurd (omega (arith, int, add_law (d.first item) (pos 0))))

  -- ---- who owes a row
  pub some_owes_owed : (book : Book d) (y : ℤ) → some_owes d book y ≡ true → OwedBy d book y
  unfolding some_owes
  some_owes_owed [] y h = absurd (true≢false (sym h))
  some_owes_owed (e ∷ rest) y h = by_test (owes d e y) refl h (some_owes_owed rest y)
    where
      by_test : (t : Bool) → owes d e y ≡ t → (t || some_owes d rest y) ≡ true
          → (some_owes d rest y ≡ true → OwedBy d rest y) → OwedBy d (e ∷ rest) y
      by_test true p q in_rest = (e, Memᴰ.head refl, p)
      by_test false p q in_rest = let r = in_rest q in (r.0, Memᴰ.tail r.1, r.2)

  pub owed_some_owes : (e : Entry d.Item) (book : Book d) (y : ℤ) → Memᴰ e book → owes d e y ≡ true
      → some_owes d book y ≡ true
  unfolding some_owes
  owed_some_owes e book y (Memᴰ.head {x = z} {xs = zs} same_entry) p = rw (← same_entry, p)
  owed_some_owes e book y (Memᴰ.tail {x = z} {xs = zs} in_rest) p =
      rw (owed_some_owes e zs y in_rest p) (or-true (owes d z y))

  pub none_owes_each : (book : Book d) (y : ℤ) → some_owes d book y ≡ false → Each (λ e. owes d e y ≡ false) book
  unfolding some_owes
  none_owes_each [] y h = tt
  none_owes_each (e ∷ rest) y h =
      let p = or_false_parts (owes d e y) (some_owes d rest y) h in
      (p.0, none_owes_each rest y p.1)

  pub each_owes_none : (book : Book d) (y : ℤ) → Each (λ e. owes d e y ≡ false) book → some_owes d book y ≡ false
  unfolding some_owes
  each_owes_none [] y h = refl
  each_owes_none (e ∷ rest) y h = rw h.0 (each_owes_none rest y h.1)

  -- ---- the layer of an entry
  pub layer_owes_is : (e : Entry d.Item) (y : ℤ) → layer_owes d (layer_of d e) y ≡ owes d e y
  unfolding layer_owes
  layer_owes_is e y = tests_equal (layer_owes d (layer_of d e) y) (owes d e y) to_book to_layer
    where
      to_book : (has_row d e.item y && le_z (first_left d e) y) ≡ true → owes d e y ≡ true
      to_book h =
          let p = and_true_parts (has_row d e.item y) (le_z (first_left d e) y) h in
          owes_holds e y (record { from_start = p.1; before_end = (has_row_true e.item y p.0).before_end })

      to_layer : owes d e y ≡ true → (has_row d e.item y && le_z (first_left d e) y) ≡ true
      to_layer h =
          let p = owes_true e y h in
          let low : le_z (d.first e.item) y ≡ true = omega (arith, int, add_law (d.first e.item) (pos e.count)) in
          and_true_of (has_row_holds e.item y (record { from_start = low; before_end = p.before_end })) p.from_start

  pub layer_painted_is : (e : Entry d.Item) (y : ℤ) → layer_has_painted d (layer_of d e) y ≡ has_painted d e y
  unfolding layer_has_painted has_painted
  layer_painted_is e y = refl

  pub layer_none_left_is : (e : Entry d.Item) → le_z (end_row d e.item) (first_left d e) ≡ none_left d e
  unfolding none_left
  layer_none_left_is e =
      let start = d.first e.item in
      tests_equal (le_z (end_row d e.item) (first_left d e)) (leb (d.rows e.item) e.count)
      (λ h. omega (arith, int, add_law start (pos e.count), add_law start (pos (d.rows e.item))))
      (λ h. omega (arith, int, add_law start (pos e.count), add_law start (pos (d.rows e.item))))
