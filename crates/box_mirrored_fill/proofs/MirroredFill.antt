-- The fill of a row whose two sides are alike: from the first column of the run between the columns left out on either side, up to the
-- last.
-- Assumes nothing.
use Rattle.std.specs.Prelude.{Some, None}
use mathlib.Core.Path.{◌≡◌, refl, sym, ap, ◌∙◌}
use mathlib.Core.Bool.{Bool, true, false, cond}
use Prim.Native.Nat.{ℕ, ◌+◌, ◌-◌, ◌≤◌, ◌<◌, min, max}
use native.Mathlib.Omega.{arith}
use borrow.Author.Tests.{ltb-true, ltb-false, lt-ltb, le-ltb}
use lib.Dec.{ltb}
use lib.IntN.{ℤ, pos, ◌+ℤ◌, ◌-ℤ◌}
use Rattle.signed.proofs.Laws.{int, add_law, sub_law}
use Rattle.geometry.specs.declared.Size.{Size}
use Rattle.geometry_range.specs.declared.Range.{Range}
use Rattle.geometry_range.proofs.Fields.{range_by_fields}
use Rattle.scanline.proofs.Find.{find_at, find_none}
use Rattle.corner_radii.specs.declared.CornerRadii.{CornerRadii}
use Rattle.box_columns.specs.Columns.{contained_from_left, contained_from_right, first_contained, last_contained}
use Rattle.box_mirrored.specs.Sides.{Between}
use Rattle.box_columns.proofs.Searches.{by_order, to_left}
use Rattle.box_fill.specs.Relative.{place_in, start_else, end_else, row_fill}
use Rattle.box_mirrored_fill.specs.MirroredFill.{fill_between}

module _ (c : CornerRadii) (s : Size) (dy k : ℕ) (b : Between c s dy k) where
  abbrev w : ℕ
  w = s.width

  -- a column seen from the other edge
  mirrored : (i : ℕ) → i < w → contained_from_left c s dy i ≡ contained_from_right c s dy (w - 1 - i)
  mirrored i l = ap (contained_from_left c s dy) (omega arith)

  -- of the columns looked through, from `from` on and before `to`, those between go from `first` up to `end`
  record Looked (from to first end : ℕ) : Type 0 where
    to_in : to ≤ w
    first_from : from ≤ first
    first_past : k ≤ first
    before_first : (i : ℕ) → from ≤ i → i < first → i < k
    end_to : end ≤ to
    end_past : end + k ≤ w
    from_end : (i : ℕ) → i < to → end ≤ i → w - 1 - i < k

  looked : (from to : ℕ) → to ≤ w → Looked from to (max from k) (min to (w - k))
  looked from to l =
      let h = b.half in
      record {
        to_in = l;
        first_from = omega arith;
        first_past = omega arith;
        before_first = λ i fi il. omega arith;
        end_to = omega arith;
        end_past = omega arith;
        from_end = λ i it ei. omega arith;
      }

  module _ (from to first end : ℕ) (l : Looked from to first end) where
    module _ (some : first < end) where
      first_found : first_contained c s dy from to ≡ Some first
      first_found =
          let ff = l.first_from in
          let et = l.end_to in
          let fp = l.first_past in
          let ep = l.end_past in
          find_at (contained_from_left c s dy) (to - from) from first ff (omega arith)
          (λ i fi il. b.none_left i (l.before_first i fi il)) (b.inside first fp (omega arith))

      last_found : last_contained c s dy (w - to) (w - from) ≡ Some (w - end)
      last_found =
          let ti = l.to_in in
          let ff = l.first_from in
          let et = l.end_to in
          let fp = l.first_past in
          let ep = l.end_past in
          find_at (contained_from_right c s dy) (w - from - (w - to)) (w - to) (w - end) (omega arith) (omega arith)
          (λ j tj jl. b.none_right j (right_of_end j tj jl))
          (ap (contained_from_left c s dy) (last_column_lem end (omega arith) (omega arith)) ∙ b.inside (end - 1) (omega arith) (omega arith))
        where
          last_column_lem : (end : ℕ) → end ≤ w → 0 < end → w - 1 - (w - end) ≡ end - 1
          last_column_lem end el p = omega arith

          seen_left : (j : ℕ) → w - to ≤ j → j < w - end → (w - 1 - j < to) × (end ≤ w - 1 - j) × (j ≡ w - 1 - (w - 1 - j))
          seen_left j tj jl = (omega arith, omega arith, omega arith)

          right_of_end : (j : ℕ) → w - to ≤ j → j < w - end → j < k
          right_of_end j tj jl =
              let seen = seen_left j tj jl in
              let r = l.from_end (w - 1 - j) seen.0 seen.1 in
              omega (arith, seen.2)

    module _ (none : end ≤ first) where
      none_between : (i : ℕ) → from ≤ i → i < to → contained_from_left c s dy i ≡ false
      none_between i fi it =
          let ti = l.to_in in
          by_order i first (λ il. b.none_left i (l.before_first i fi il))
          (λ fl. mirrored i (omega arith) ∙ b.none_right (w - 1 - i) (l.from_end i it (omega arith)))

      first_none : first_contained c s dy from to ≡ None
      first_none = find_none (contained_from_left c s dy) (to - from) from (λ i fi il. none_between i fi (within i fi il))
        where
          within : (i : ℕ) → from ≤ i → i < from + (to - from) → i < to
          within i fi il = omega arith

      last_none : last_contained c s dy (w - to) (w - from) ≡ None
      last_none =
          find_none (contained_from_right c s dy) (w - from - (w - to)) (w - to)
          (λ j tj jl. let m = to_left w from to j l.to_in tj jl in none_between (w - 1 - j) m.i_from m.i_to)

  -- ---- the run
  module _ (left : ℤ) (run : Range) where
    abbrev from : ℕ
    from = place_in left w run.start

    abbrev to : ℕ
    to = place_in left w run.end

    abbrev first : ℕ
    first = max from k

    abbrev end : ℕ
    end = min to (w - k)

    at : Looked from to first end
    at = looked from to (omega arith)

    end_in : end ≤ w
    end_in = omega arith

    end_column : end ≤ w → left +ℤ pos end ≡ left +ℤ pos w -ℤ pos (w - end)
    end_column l = omega (arith, int, add_law left (pos end), add_law left (pos w), sub_law (left +ℤ pos w) (pos (w - end)))

    pub fill_between_lem : fill_between left w run k ≡ row_fill c s left dy run
    unfolding fill_between row_fill
    fill_between_lem = by_test (ltb first end) refl
      where
        by_test : (t : Bool) → ltb first end ≡ t
            → cond t (record { start = left +ℤ pos first; end = left +ℤ pos end }) run
            ≡ record {
              start = start_else left run.start (first_contained c s dy from to);
              end = end_else left w run.end (last_contained c s dy (w - to) (w - from));
            }
        by_test true e =
            let some = ltb-true first end e in
            range_by_fields
            (ap (start_else left run.start) (sym (first_found from to first end at some)))
            (end_column end_in ∙ ap (end_else left w run.end) (sym (last_found from to first end at some)))
        by_test false e =
            let none = ltb-false first end e in
            range_by_fields
            (ap (start_else left run.start) (sym (first_none from to first end at none)))
            (ap (end_else left w run.end) (sym (last_none from to first end at none)))

-- ---- the code's way to it
module _ (left : ℤ) (w : ℕ) (run : Range) (k first end : ℕ) (first_is : first ≡ max (place_in left w run.start) k)
    (end_is : end ≡ min (place_in left w run.end) (w - k)) where
  pub between_some : first < end → record { start = left +ℤ pos first; end = left +ℤ pos end } ≡ fill_between left w run k
  unfolding fill_between
  between_some l =
      (λ i. cond (sym (lt-ltb first end l) i) (record { start = left +ℤ pos first; end = left +ℤ pos end }) run)
      ∙ (λ i. cond (ltb (first_is i) (end_is i)) (record { start = left +ℤ pos (first_is i); end = left +ℤ pos (end_is i) }) run)

  pub between_none : end ≤ first → run ≡ fill_between left w run k
  unfolding fill_between
  between_none l =
      (λ i. cond (sym (le-ltb first end l) i) (record { start = left +ℤ pos first; end = left +ℤ pos end }) run)
      ∙ (λ i. cond (ltb (first_is i) (end_is i)) (record { start = left +ℤ pos (first_is i); end = left +ℤ pos (end_is i) }) run)
