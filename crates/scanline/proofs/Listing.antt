-- Points written into a lent list: what is still to be written, and from where, makes the whole. So a loop's invariant needs no
-- list of what is done.
-- Assumes nothing.
use Rattle.scanline.specs.Rows.{Row}
use Rattle.std.specs.Prelude.{Some, None}
use mathlib.Core.Path.{◌≡◌, refl, sym, ap, ◌∙◌}
use mathlib.Core.Bool.{true, false}
use mathlib.Core.List.{List, [], ◌∷◌, ◌++◌}
use Prim.Native.Nat.{ℕ, zero, suc, ◌+◌, ◌-◌, ◌*◌, ◌≤◌, ◌<◌}
use native.Mathlib.Omega.{arith}
use lib.IntN.{ℤ, pos, ◌+ℤ◌}
use lib.ListN.{length, set, length-set, length-append}
use lib.Seq.{sets, length-sets}
use Rattle.geometry.specs.declared.Point.{Point}
use Rattle.geometry_range.specs.declared.Range.{Range}
use Rattle.geometry_range.specs.Range.{is_empty}
use Rattle.scanline.specs.Points.{run_length, run_points, and_below, points_from, entries}
use Rattle.scanline.proofs.Columns.{column_next, column_zero}

-- to store vs in l from i on is to store ws in m from j on: m is l with what stands before ws already stored
pub record StillTo (l : List ℤ) (i : ℕ) (vs : List ℤ) (m : List ℤ) (j : ℕ) (ws : List ℤ) : Type 0 where
  pub whole : sets l i vs ≡ sets m j ws
  pub long : length m ≡ length l

-- ---- a run, column by column
pub length_run_points : (y x : ℤ) (n : ℕ) → length (run_points y x n) ≡ n
unfolding run_points
length_run_points y x zero = refl
length_run_points y x (suc n) = ap suc (length_run_points y (x +ℤ pos 1) n)

still_pair : {l vs m ws : List ℤ} {i j : ℕ} {x y : ℤ} → StillTo l i vs m j (x ∷ y ∷ ws)
    → StillTo l i vs (set (set m j x) (j + 1) y) (j + 2) ws
still_pair {l} {vs} {m} {ws} {i} {j} {x} {y} s =
    record {
      whole = s.whole ∙ (λ k. sets (set (set m j x) (one k) y) (two k) ws);
      long = length-set (set m j x) (j + 1) y ∙ length-set m j x ∙ s.long;
    }
  where
    one : suc j ≡ j + 1
    one = omega arith

    two : suc (suc j) ≡ j + 2
    two = omega arith

run_points_next : (y start : ℤ) (k n : ℕ) → k < n
    → run_points y (start +ℤ pos k) (n - k) ≡ record { x = start +ℤ pos k; y = y } ∷ run_points y (start +ℤ pos (k + 1)) (n - (k + 1))
unfolding run_points
run_points_next y start k n h =
    ap (run_points y (start +ℤ pos k)) left
    ∙ rw (column_next start k) (λ i. record { x = start +ℤ pos k; y = y } ∷ run_points y (start +ℤ pos (one i)) (n - (k + 1)))
  where
    left : n - k ≡ suc (n - (k + 1))
    left = omega arith

    one : suc k ≡ k + 1
    one = omega arith

-- a turn of the loop over columns
pub still_column : {l vs m : List ℤ} {i j : ℕ} {x : ℤ} (y start : ℤ) (k n : ℕ) → k < n → x ≡ start +ℤ pos k
    → StillTo l i vs m j (entries (run_points y (start +ℤ pos k) (n - k)))
    → StillTo l i vs (set (set m j x) (j + 1) y) (j + 2) (entries (run_points y (start +ℤ pos (k + 1)) (n - (k + 1))))
unfolding entries
still_column y start k n h e s = rw e (still_pair (rw (run_points_next y start k n h) at s))

pub run_points_none : (y x : ℤ) (n : ℕ) → n ≡ 0 → entries (run_points y x n) ≡ []
unfolding entries run_points
run_points_none y x n e = ap (λ (r : ℕ). entries (run_points y x r)) e

-- ---- whole runs
entries_append : (ps qs : List Point) → entries (ps ++ qs) ≡ entries ps ++ entries qs
unfolding entries
entries_append [] qs = refl
entries_append (p ∷ ps) qs = ap (λ (r : List ℤ). p.x ∷ p.y ∷ r) (entries_append ps qs)

length_entries : (ps : List Point) → length (entries ps) ≡ 2 * length ps
unfolding entries
length_entries [] = refl
length_entries (p ∷ ps) = omega (arith, length_entries ps)

sets_append : (l : List ℤ) (i : ℕ) (s t : List ℤ) → sets l i (s ++ t) ≡ sets (sets l i s) (i + length s) t
sets_append l i [] t = ap (λ (k : ℕ). sets l k t) (omega arith)
sets_append l i (a ∷ s) t =
    sets_append (set l i a) (suc i) s t ∙ ap (λ (k : ℕ). sets (sets (set l i a) (suc i) s) k t) (omega arith)

still_run : {l vs m m' : List ℤ} {i j : ℕ} (y x : ℤ) (n : ℕ) (rest : List Point) (j' : ℕ)
    → StillTo l i vs m j (entries (run_points y x n ++ rest)) → m' ≡ sets m j (entries (run_points y x n)) → j' ≡ j + 2 * n
    → StillTo l i vs m' j' (entries rest)
still_run {l} {vs} {m} {m'} {i} {j} y x n rest j' s e f =
    record {
      whole =
          s.whole
          ∙ ap (sets m j) (entries_append (run_points y x n) rest)
          ∙ sets_append m j (entries (run_points y x n)) (entries rest)
          ∙ (λ k. sets (sym e k) (next k) (entries rest));
      long = ap length e ∙ length-sets m j (entries (run_points y x n)) ∙ s.long;
    }
  where
    next : j + length (entries (run_points y x n)) ≡ j'
    next = omega (arith, length_entries (run_points y x n), length_run_points y x n)

-- ---- whole rows, of any figure: `row` gives its rows, `top` its first and h their number
module _ (row : ℤ → Row) (top : ℤ) (h : ℕ) where
  -- the points from row dy on
  abbrev pub points_after : ℕ → List Point
  points_after dy = points_from row (top +ℤ pos dy) (h - dy)

  pub points_after_none : points_from row top h ≡ points_after 0
  points_after_none = λ i. points_from row (column_zero top i) (all i)
    where
      all : h ≡ h - 0
      all = omega arith

  pub points_after_all : (dy : ℕ) → h ≤ dy → points_after dy ≡ []
  unfolding points_from
  points_after_all dy l = ap (points_from row (top +ℤ pos dy)) none_left
    where
      none_left : h - dy ≡ 0
      none_left = omega arith

  -- a row is taken apart: its run and the rows below, or the end of the list
  by_row : (dy : ℕ) → dy < h → points_after dy ≡ and_below (top +ℤ pos dy) (row (top +ℤ pos dy)) (points_after (dy + 1))
  unfolding points_from
  by_row dy l =
      ap (points_from row (top +ℤ pos dy)) left
      ∙ ap (λ (z : ℤ). and_below (top +ℤ pos dy) (row (top +ℤ pos dy)) (points_from row z (h - (dy + 1)))) (column_next top dy)
      ∙ (λ i. and_below (top +ℤ pos dy) (row (top +ℤ pos dy)) (points_from row (top +ℤ pos (one i)) (h - (dy + 1))))
    where
      left : h - dy ≡ suc (h - (dy + 1))
      left = omega arith

      one : suc dy ≡ dy + 1
      one = omega arith

  pub points_after_run : (dy : ℕ) (r : Range) → dy < h → row (top +ℤ pos dy) ≡ Some r → is_empty r ≡ false
      → points_after dy ≡ run_points (top +ℤ pos dy) r.start (run_length r) ++ points_after (dy + 1)
  points_after_run dy r l e full =
      by_row dy l ∙ ap (λ (q : Row). and_below (top +ℤ pos dy) q (points_after (dy + 1))) e ∙ rw full

  pub points_after_empty : (dy : ℕ) (r : Range) → dy < h → row (top +ℤ pos dy) ≡ Some r → is_empty r ≡ true → points_after dy ≡ []
  points_after_empty dy r l e empty =
      by_row dy l ∙ ap (λ (q : Row). and_below (top +ℤ pos dy) q (points_after (dy + 1))) e ∙ rw empty

  pub points_after_no_row : (dy : ℕ) → dy < h → row (top +ℤ pos dy) ≡ None → points_after dy ≡ []
  points_after_no_row dy l e = by_row dy l ∙ ap (λ (q : Row). and_below (top +ℤ pos dy) q (points_after (dy + 1))) e

  pub length_after_run : (dy : ℕ) (r : Range) → dy < h → row (top +ℤ pos dy) ≡ Some r → is_empty r ≡ false
      → length (points_after dy) ≡ run_length r + length (points_after (dy + 1))
  length_after_run dy r l e full =
      ap length (points_after_run dy r l e full)
      ∙ length-append (run_points (top +ℤ pos dy) r.start (run_length r)) (points_after (dy + 1))
      ∙ ap (λ (n : ℕ). n + length (points_after (dy + 1))) (length_run_points (top +ℤ pos dy) r.start (run_length r))

  -- the loop that writes the rows: those from dy on are left to write, from index `at` on, and there is room for them
  pub record RowsLeft (list₀ list : List ℤ) (at dy : ℕ) : Type 0 where
    pub room : at + 2 * length (points_after dy) ≤ length list₀
    pub still : StillTo list₀ 0 (entries (points_from row top h)) list at (entries (points_after dy))

  pub rows_left_start : (list : List ℤ) → 2 * length (points_from row top h) ≤ length list → RowsLeft list list 0 0
  rows_left_start list r =
      record {
        room = omega (arith, ap length points_after_none);
        still = record { whole = ap (λ (ps : List Point). sets list 0 (entries ps)) points_after_none; long = refl };
      }

  pub rows_left_done : {list₀ list : List ℤ} {at dy : ℕ} → RowsLeft list₀ list at dy → points_after dy ≡ []
      → list ≡ sets list₀ 0 (entries (points_from row top h))
  unfolding entries
  rows_left_done {list = list} {at = at} r q = sym (r.still.whole ∙ ap (λ (ps : List Point). sets list at (entries ps)) q)

  module _ {list₀ list : List ℤ} {at dy : ℕ} (left : RowsLeft list₀ list at dy) (l : dy < h) (r : Range)
      (e : row (top +ℤ pos dy) ≡ Some r) (full : is_empty r ≡ false) where
    pub rows_left_room : at + 2 * run_length r ≤ length list
    rows_left_room = let a = left.room in omega (arith, length_after_run dy r l e full, left.still.long)

    pub rows_left_next : {list' : List ℤ} {at' : ℕ} → list' ≡ sets list at (entries (run_points (top +ℤ pos dy) r.start (run_length r)))
        → at' ≡ at + 2 * run_length r → RowsLeft list₀ list' at' (dy + 1)
    rows_left_next {at' = at'} s a =
        record {
          room = let b = left.room in omega (arith, length_after_run dy r l e full);
          still =
              still_run (top +ℤ pos dy) r.start (run_length r) (points_after (dy + 1)) at'
              (rw (points_after_run dy r l e full) at left.still) s a;
        }
