-- The fill of a row, from the paper's signed columns to those counted from the fill area's edges, and the code's way to it.
-- Assumes nothing.
use Rattle.std.specs.Prelude.{Some, None}
use mathlib.Core.Path.{◌≡◌, refl, sym, ap, ap₂, ◌∙◌}
use mathlib.Core.Bool.{Bool, true, false}
use Prim.Native.Nat.{ℕ, ◌+◌, ◌-◌, ◌≤◌, ◌<◌, max}
use native.Mathlib.Omega.{arith}
use lib.IntN.{ℤ, pos, ◌+ℤ◌, ◌-ℤ◌}
use mir.Syntax.{w32}
use mir.Val.{SFits, to_z, of_z}
use mir.Facts.{to_z-of_z}
use Rattle.geometry.specs.declared.Size.{Size}
use Rattle.geometry_range.specs.declared.Range.{Range}
use Rattle.geometry_range.specs.Range.{contains as range_contains}
use Rattle.rectangle.specs.Rectangle.{rows}
use Rattle.geometry_range.proofs.Fields.{range_by_fields}
use Rattle.scanline.specs.Places.{Placed}
use Rattle.scanline.proofs.Find.{FoundAt, find_none, found_at, found_none}
use Rattle.scanline.proofs.Placed.{place_among}
use Rattle.corner_radii.specs.declared.CornerRadii.{CornerRadii}
use Rattle.rounded_rectangle.specs.declared.RoundedRectangle.{RoundedRectangle}
use Rattle.rounded_rectangle.specs.Quadrants.{left, top, width, height}
use Rattle.rounded_rectangle.specs.RoundedRectangle.{contains}
use Rattle.rounded_rectangle.proofs.Contains.{contains_relative, contains_no_column}
use Rattle.box_fill.specs.BoxFill.{fill_run}
use Rattle.box_columns.specs.Columns.{NoneBefore, contained_from_left, contained_from_right, first_contained, last_contained}
use Rattle.box_fill.specs.Relative.{place_in, start_else, end_else, row_fill}
use Rattle.box_columns.proofs.Searches.{find_past, find_longer, holds_past, to_right, to_left}
use Rattle.box_fill.proofs.Clipped.{start_clipped, end_clipped}

-- ---- from signed columns to places
module _ (b : RoundedRectangle) (y : ℤ) (run : Range) where
  pub fill_off_rows : Placed (top b) (height b) y None → record { start = run.end; end = run.end } ≡ fill_run b y run
  unfolding fill_run
  fill_off_rows h = rw h

  module _ (dy : ℕ) (p : Placed (top b) (height b) y (Some dy)) where
    abbrev from_left : ℕ → Bool
    from_left = contained_from_left b.corners b.rectangle.size dy

    abbrev from_right : ℕ → Bool
    from_right = contained_from_right b.corners b.rectangle.size dy

    agree : (k : ℕ) → k < width b → contains b (left b +ℤ pos k) y ≡ from_left k
    agree k l = ap (contains b (left b +ℤ pos k)) p.0 ∙ contains_relative b k dy l p.1

    beside : (x : ℤ) → Placed (left b) (width b) x None → contains b x y ≡ false
    beside x h = sym (contains_no_column b x y h)

    pub fill_relative : row_fill b.corners b.rectangle.size (left b) dy run ≡ fill_run b y run
    unfolding fill_run row_fill
    fill_relative =
        let among : range_contains (rows b.rectangle) y ≡ true =
        ap (range_contains (rows b.rectangle)) p.0 ∙ place_among (top b) (height b) dy p.1 in
        let test : ℤ → Bool = λ x. contains b x y in
        rw among
        (range_by_fields
        (sym (start_clipped test from_left (left b) (width b) agree beside run.start run.end))
        (sym (end_clipped test from_left (left b) (width b) agree beside run.start run.end from_right (λ k. refl))))

-- ---- the code's way: it skips columns that are not contained, and looks from the right only if there is a contained one
-- where it looks for the first one: from one place on and before another, past the first n
pub record Looked (c : CornerRadii) (s : Size) (left : ℤ) (dy : ℕ) (run : Range) (from to n : ℕ) : Type 0 where
  pub from_is : from ≡ place_in left s.width run.start
  pub to_is : to ≡ place_in left s.width run.end
  pub to_le : to ≤ s.width
  pub none_left : NoneBefore (contained_from_left c s dy) n

module _ {c : CornerRadii} {s : Size} {left : ℤ} {dy : ℕ} {run : Range} {from to n : ℕ} (l : Looked c s left dy run from to n) where
  abbrev w : ℕ
  w = s.width

  first_whole : first_contained c s dy (max from n) to ≡ first_contained c s dy from to
  first_whole = sym (find_past (contained_from_left c s dy) from n to l.none_left)

  -- the two searches of `row_fill`
  first_placed : first_contained c s dy from to ≡ first_contained c s dy (place_in left w run.start) (place_in left w run.end)
  first_placed i = first_contained c s dy (l.from_is i) (l.to_is i)

  last_placed : last_contained c s dy (w - to) (w - from) ≡ last_contained c s dy (w - place_in left w run.end)
      (w - place_in left w run.start)
  last_placed i = last_contained c s dy (w - l.to_is i) (w - l.from_is i)

  -- none from the left: none from the right
  module _ (e : None ≡ first_contained c s dy (max from n) to) where
    last_nowhere : None ≡ last_contained c s dy (w - to) (w - from)
    last_nowhere =
        sym (find_none (contained_from_right c s dy) _ _
        (λ k tk kf.
        let m = to_left w from to k l.to_le tk kf in
        found_none (contained_from_left c s dy) (to - from) from (sym (e ∙ first_whole)) (w - 1 - k) m.i_from
        (within m.i_from m.i_to)))
      where
        within : {i : ℕ} → from ≤ i → i < to → i < from + (to - from)
        within {i} fi it = omega arith

    pub fill_none : run ≡ row_fill c s left dy run
    unfolding row_fill
    fill_none =
        range_by_fields (ap (start_else left run.start) (e ∙ first_whole ∙ first_placed))
        (ap (end_else left w run.end) (last_nowhere ∙ last_placed))

  -- one from the left: the search from the right stops there at the latest
  module _ (first : ℕ) (e : Some first ≡ first_contained c s dy (max from n) to) where
    abbrev first_found : FoundAt (contained_from_left c s dy) (to - max from n) (max from n) first
    first_found = found_at (contained_from_left c s dy) (to - max from n) (max from n) first (sym e)

    first_from : from ≤ first
    first_from = let a = first_found.from in omega arith

    first_to : first < to
    first_to = let a = first_found.from in let b = first_found.below in omega arith

    pub first_in : first < w
    first_in = let a = first_to in let b = l.to_le in omega arith

    pub first_mirrored : contained_from_right c s dy (w - 1 - first) ≡ true
    first_mirrored =
        ap (contained_from_left c s dy) (sym (to_right w from to first l.to_le first_from first_to).i_is) ∙ first_found.holds

    module _ (m : ℕ) (none_right : NoneBefore (contained_from_right c s dy) m) where
      pub right_start : max (w - to) m ≤ w - 1 - first
      right_start =
          let f = first_to in
          let h = holds_past (contained_from_right c s dy) m (w - 1 - first) none_right first_mirrored in
          omega arith

      module _ (last : ℕ) (g : Some last ≡ last_contained c s dy (max (w - to) m) (w - 1 - first + 1)) where
        last_whole : Some last ≡ last_contained c s dy (w - to) (w - from)
        last_whole =
            find_longer (contained_from_right c s dy) (max (w - to) m) (w - 1 - first + 1) (w - from) last before_from g
            ∙ sym (find_past (contained_from_right c s dy) (w - to) m (w - from) none_right)
          where
            before_from : w - 1 - first + 1 ≤ w - from
            before_from = let f = first_from in let t = first_in in omega arith

        pub fill_found : record { start = left +ℤ pos first; end = left +ℤ pos w -ℤ pos last } ≡ row_fill c s left dy run
        unfolding row_fill
        fill_found =
            range_by_fields (ap (start_else left run.start) (e ∙ first_whole ∙ first_placed))
            (ap (end_else left w run.end) (last_whole ∙ last_placed))

-- the place of a column where the machine reads both numbers
pub place_read : (first v : ℤ) (n k : ℕ) → SFits w32 first → SFits w32 v
    → k ≡ place_in (to_z w32 (of_z w32 first)) n (to_z w32 (of_z w32 v)) → k ≡ place_in first n v
place_read first v n k f g e = e ∙ ap₂ (λ (a b : ℤ). place_in a n b) (to_z-of_z f) (to_z-of_z g)
