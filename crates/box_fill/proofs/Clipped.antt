-- A search over the columns of a run s..e for a test that fails outside the box's columns is a search over those that both
-- have, counted from the box's left edge, or for the last one from its right edge.
-- Assumes nothing.
use Rattle.std.specs.Prelude.{Some, None}
use mathlib.Core.Path.{◌≡◌, refl, sym, ap, ◌∙◌}
use mathlib.Core.Bool.{Bool, true, false}
use Prim.Native.Nat.{ℕ, ◌-◌, ◌≤◌, ◌<◌}
use native.Mathlib.Omega.{arith}
use lib.IntN.{ℤ, pos, ◌+ℤ◌, ◌-ℤ◌}
use lib.Signed.{lt_z, le_z}
use Rattle.signed.specs.Signed.{floor0}
use Rattle.signed.proofs.Laws.{int, add_law, sub_law}
use Rattle.scanline.specs.Columns.{found, none, first_column, last_column, column_else, column_after_else}
use Rattle.scanline.specs.Places.{find_from, Placed, Place}
use Rattle.scanline.proofs.Find.{FoundAt, find_at, find_none, found_at, found_none}
use Rattle.scanline.proofs.Columns.{from_left, from_right, first_from_edge, last_from_edge}
use Rattle.scanline.proofs.Placed.{placed_before, placed_after}
use Rattle.box_fill.specs.Relative.{place_in, start_else, end_else}
use Rattle.box_columns.proofs.Searches.{FromRight, to_right, to_left}

-- ---- a search over signed columns, by its answer
module _ (test : ℤ → Bool) (s : ℤ) (n : ℕ) where
  first_column_at : (j : ℕ) → j < n → ((i : ℕ) → i < j → test (s +ℤ pos i) ≡ false) → test (s +ℤ pos j) ≡ true
      → first_column test s n ≡ found (s +ℤ pos j)
  first_column_at j jn before here =
      first_from_edge test (λ i. test (s +ℤ pos i)) s n (λ k _. refl)
      ∙ ap (from_left s) (find_at (λ i. test (s +ℤ pos i)) n 0 j (omega arith) (omega arith) (λ i _ ij. before i ij) here)

  first_column_none : ((i : ℕ) → i < n → test (s +ℤ pos i) ≡ false) → first_column test s n ≡ none
  first_column_none all =
      first_from_edge test (λ i. test (s +ℤ pos i)) s n (λ k _. refl)
      ∙ ap (from_left s) (find_none (λ i. test (s +ℤ pos i)) n 0 (λ i _ il. all i (omega arith)))

  last_column_at : (j : ℕ) → j < n → ((i : ℕ) → j < i → i < n → test (s +ℤ pos i) ≡ false) → test (s +ℤ pos j) ≡ true
      → last_column test s n ≡ found (s +ℤ pos j)
  last_column_at j jn after here =
      last_from_edge test (λ i. test (s +ℤ pos (n - 1 - i))) s n (λ k _. refl)
      ∙ ap (from_right s n)
      (find_at (λ i. test (s +ℤ pos (n - 1 - i))) n 0 (n - 1 - j) (omega arith) (omega arith)
      (λ i _ ij. after (n - 1 - i) (omega arith) (omega arith)) (ap (λ (i : ℕ). test (s +ℤ pos i)) back ∙ here))
      ∙ ap (λ (i : ℕ). found (s +ℤ pos i)) back
    where
      back : n - 1 - (n - 1 - j) ≡ j
      back = omega arith

  last_column_none : ((i : ℕ) → i < n → test (s +ℤ pos i) ≡ false) → last_column test s n ≡ none
  last_column_none all =
      last_from_edge test (λ i. test (s +ℤ pos (n - 1 - i))) s n (λ k _. refl)
      ∙ ap (from_right s n) (find_none (λ i. test (s +ℤ pos (n - 1 - i))) n 0 (λ i _ il. all (n - 1 - i) (omega arith)))

-- a place further from the left edge is closer to the right one
closer : (w j k q : ℕ) → j < w → k ≡ w - 1 - j → k < q → q ≡ w - 1 - (w - 1 - q) → w - 1 - q < j
closer w j k q jw is kq back = omega arith

-- ---- the columns of s..e that the box has: from one place on and before another, counted from its left edge
module _ (test : ℤ → Bool) (here : ℕ → Bool) (left : ℤ) (w : ℕ) (agree : (k : ℕ) → k < w → test (left +ℤ pos k) ≡ here k)
    (beside : (x : ℤ) → Placed left w x None → test x ≡ false) (s e : ℤ) where
  abbrev from : ℕ
  from = place_in left w s

  abbrev to : ℕ
  to = place_in left w e

  -- the test fails at a column of s..e if it fails at its place, where it has one
  fails_at : (x : ℤ) → le_z s x ≡ true → lt_z x e ≡ true → ((i : ℕ) → from ≤ i → i < to → x ≡ left +ℤ pos i → here i ≡ false)
      → test x ≡ false
  fails_at x sx xe within = by_tests (lt_z x left) refl (le_z (left +ℤ pos w) x) refl
    where
      by_tests : (t : Bool) → lt_z x left ≡ t → (u : Bool) → le_z (left +ℤ pos w) x ≡ u → test x ≡ false
      by_tests true l u r = beside x (placed_before left w x l)
      by_tests false l true r = beside x (placed_after left w x r)
      by_tests false l false r =
          let i = floor0 (x -ℤ left) in
          let is : x ≡ left +ℤ pos i = omega (arith, int, sub_law x left) in
          let in_box : i < w = omega (arith, int, sub_law x left, add_law left (pos w)) in
          let low : from ≤ i = omega (arith, int, sub_law x left, sub_law s left) in
          let high : i < to = omega (arith, int, sub_law x left, sub_law e left) in
          ap test is ∙ agree i in_box ∙ within i low high is

  -- a place from the one on and before the other stands for a column of s..e
  module _ (k : ℕ) (low : from ≤ k) (high : k < to) where
    in_box : k < w
    in_box = omega arith

    from_s : le_z s (left +ℤ pos k) ≡ true
    from_s = omega (arith, int, sub_law s left, add_law left (pos k), in_box)

    to_e : lt_z (left +ℤ pos k) e ≡ true
    to_e = omega (arith, int, sub_law e left, add_law left (pos k))

    abbrev index : ℕ
    index = floor0 (left +ℤ pos k -ℤ s)

    place_is : s +ℤ pos index ≡ left +ℤ pos k
    place_is = by_order from_s
      where
        by_order : le_z s (left +ℤ pos k) ≡ true → s +ℤ pos index ≡ left +ℤ pos k
        by_order l = omega (arith, int, sub_law (left +ℤ pos k) s, add_law s (pos index), add_law left (pos k))

    in_run_lem : index < floor0 (e -ℤ s)
    in_run_lem = omega (arith, int, from_s, to_e, sub_law (left +ℤ pos k) s, sub_law e s, add_law left (pos k))

    holds_at : here k ≡ true → test (s +ℤ pos index) ≡ true
    holds_at h = ap test place_is ∙ agree k in_box ∙ h

  -- no place holds: no column does
  none_of_run : ((i : ℕ) → from ≤ i → i < to → here i ≡ false) → (i : ℕ) → i < floor0 (e -ℤ s) → test (s +ℤ pos i) ≡ false
  none_of_run none_in i il =
      fails_at (s +ℤ pos i) (omega (arith, int, add_law s (pos i))) (omega (arith, int, add_law s (pos i), sub_law e s))
      (λ k low high _. none_in k low high)

  first_by_place : (p : Place) → find_from here (to - from) from ≡ p → first_column test s (floor0 (e -ℤ s)) ≡ from_left left p
  first_by_place None is =
      first_column_none test s (floor0 (e -ℤ s))
      (none_of_run (λ i fi it. found_none here (to - from) from is i fi (omega arith)))
  first_by_place (Some k) is = by_found is_found.from (omega (arith, is_found.from, is_found.below))
    where
      is_found : FoundAt here (to - from) from k
      is_found = found_at here (to - from) from k is

      by_found : from ≤ k → k < to → first_column test s (floor0 (e -ℤ s)) ≡ found (left +ℤ pos k)
      by_found low high =
          first_column_at test s (floor0 (e -ℤ s)) (index k low high) (in_run_lem k low high) before
          (holds_at k low high is_found.holds)
          ∙ ap found (place_is k low high)
        where
          before : (i : ℕ) → i < floor0 (left +ℤ pos k -ℤ s) → test (s +ℤ pos i) ≡ false
          before i ij =
              fails_at (s +ℤ pos i) (omega (arith, int, add_law s (pos i)))
              (omega (arith, int, to_e k low high, sub_law (left +ℤ pos k) s, add_law s (pos i), add_law left (pos k)))
              (λ m lo hi x. is_found.none_before m lo
              (omega (arith, int, sub_law (left +ℤ pos k) s, add_law s (pos i), add_law left (pos k), add_law left (pos m))))

  pub start_clipped : column_else s (first_column test s (floor0 (e -ℤ s))) ≡ start_else left s (find_from here (to - from) from)
  start_clipped =
      ap (column_else s) (first_by_place (find_from here (to - from) from) refl) ∙ by_place (find_from here (to - from) from)
    where
      by_place : (p : Place) → column_else s (from_left left p) ≡ start_else left s p
      by_place (Some k) = refl
      by_place None = refl

  -- ---- from the right edge
  module _ (mirrored : ℕ → Bool) (mirror : (k : ℕ) → mirrored k ≡ here (w - 1 - k)) where
    abbrev search : Place
    search = find_from mirrored (w - from - (w - to)) (w - to)

    to_le : to ≤ w
    to_le = omega arith

    last_by_place : (p : Place) → search ≡ p → column_after_else e (last_column test s (floor0 (e -ℤ s))) ≡ end_else left w e p
    last_by_place None is = ap (column_after_else e) (last_column_none test s (floor0 (e -ℤ s)) (none_of_run none_in))
      where
        none_in : (i : ℕ) → from ≤ i → i < to → here i ≡ false
        none_in i fi it =
            let m = to_right w from to i to_le fi it in
            ap here m.i_is ∙ sym (mirror (w - 1 - i)) ∙ found_none mirrored _ _ is (w - 1 - i) m.k_from m.k_below
    last_by_place (Some j) is = by_found (w - 1 - j) (to_left w from to j to_le is_found.from is_found.below)
      where
        is_found : FoundAt mirrored (w - from - (w - to)) (w - to) j
        is_found = found_at mirrored (w - from - (w - to)) (w - to) j is

        by_found : (k : ℕ) → FromRight w from to k j
            → column_after_else e (last_column test s (floor0 (e -ℤ s))) ≡ left +ℤ pos w -ℤ pos j
        by_found k m =
            ap (column_after_else e)
            (last_column_at test s (floor0 (e -ℤ s)) (index k m.i_from m.i_to) (in_run_lem k m.i_from m.i_to) after
            (holds_at k m.i_from m.i_to (ap here m.i_is ∙ sym (mirror j) ∙ is_found.holds))
            ∙ ap found (place_is k m.i_from m.i_to))
            ∙ end_is m.k_in m.i_is
          where
            end_is : j < w → k ≡ w - 1 - j → left +ℤ pos k +ℤ pos 1 ≡ left +ℤ pos w -ℤ pos j
            end_is jw is =
                omega (
                  arith,
                  int,
                  add_law (left +ℤ pos k) (pos 1),
                  add_law left (pos k),
                  add_law left (pos w),
                  sub_law (left +ℤ pos w) (pos j),
                )

            after : (i : ℕ) → floor0 (left +ℤ pos k -ℤ s) < i → i < floor0 (e -ℤ s) → test (s +ℤ pos i) ≡ false
            after i ji il =
                fails_at (s +ℤ pos i) (omega (arith, int, add_law s (pos i)))
                (omega (arith, int, sub_law e s, add_law s (pos i)))
                (λ q lo hi x.
                fails_after q lo hi
                (omega (arith, int, sub_law (left +ℤ pos k) s, add_law s (pos i), add_law left (pos k), add_law left (pos q))))
              where
                fails_after : (q : ℕ) → from ≤ q → q < to → k < q → here q ≡ false
                fails_after q lo hi further =
                    let n = to_right w from to q to_le lo hi in
                    ap here n.i_is ∙ sym (mirror (w - 1 - q))
                    ∙ is_found.none_before (w - 1 - q) n.k_from (closer w j k q m.k_in m.i_is further n.i_is)

    pub end_clipped : column_after_else e (last_column test s (floor0 (e -ℤ s))) ≡ end_else left w e search
    end_clipped = last_by_place search refl
