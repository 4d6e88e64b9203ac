-- The whole run in the stroke paint and then the fill over it leave the bytes that the three runs leave, where they are nested.
-- Assumes nothing.
use Rattle.style.specs.Style.{Paint}
use Rattle.std.specs.Prelude.{Some, None}
use mathlib.Core.Path.{◌≡◌, refl, sym, ap, ◌∙◌}
use mathlib.Core.Bool.{Bool, true, false, cond, ◌&&◌, ◌||◌, false≢true}
use mathlib.Core.List.{List}
use Prim.Native.Nat.{ℕ, ◌<◌, ◌≤◌}
use native.Mathlib.Omega.{arith}
use lib.IntN.{ℤ, pos}
use lib.ListN.{length, get_or}
use lib.Seq.{ext_get_or}
use lib.Signed.{le_z, lt_z}
use Rattle.signed.proofs.Laws.{int}
use Rattle.geometry_range.specs.declared.Range.{Range}
use Rattle.geometry_range.specs.Range.{contains}
use Rattle.scanline.specs.declared.StyledRuns.{StyledRuns}
use Rattle.style.specs.declared.Style.{Style}
use Rattle.canvas_run.specs.Run.{under, byte_over, run_over}
use Rattle.canvas_run.specs.declared.Columns.{Columns}
use Rattle.canvas_run.specs.Columns.{clipped}
use Rattle.canvas_run.proofs.Runs.{clipped_in_order, run_over_length, run_over_byte}
use Rattle.canvas.specs.Canvas.{overpaint_runs}
use Rattle.canvas.specs.Nested.{whole_run, Nested}
use Rattle.canvas.proofs.Overpaint.{overpaint_runs_length, overpaint_runs_byte}

-- the columns of a clipped run stand in order
pub columns_in_order : (run : Range) (width : ℕ) (columns : Columns) → columns ≡ clipped run width → columns.from ≤ columns.to
columns_in_order run width columns is = rw is (clipped_in_order run width)

-- ---- one byte, by whether each run holds its column
twice : (stroke : Paint) (byte : ℕ) → under stroke (under stroke byte) ≡ under stroke byte
twice None byte = refl
twice (Some colour) byte = refl

either_stroke : (left right : Bool) (stroke : Paint) (byte : ℕ)
    → cond (left || right) (under stroke byte) byte
    ≡ cond right (under stroke (cond left (under stroke byte) byte)) (cond left (under stroke byte) byte)
either_stroke true true stroke byte = sym (twice stroke byte)
either_stroke true false stroke byte = refl
either_stroke false true stroke byte = refl
either_stroke false false stroke byte = refl

byte_nested : (left fill right whole : Bool) (stroke : Paint) (colour byte : ℕ)
    → (fill ≡ true → right ≡ false) → (fill ≡ false → whole ≡ left || right)
    → cond fill colour (cond whole (under stroke byte) byte)
    ≡ cond right
    (under stroke (cond fill colour (cond left (under stroke byte) byte)))
    (cond fill colour (cond left (under stroke byte) byte))
byte_nested left true right whole stroke colour byte apart together = rw (apart refl)
byte_nested left false right whole stroke colour byte apart together = rw (together refl) (either_stroke left right stroke byte)

-- ---- which runs hold a column, by the tests at their ends: from the left stroke's start on (a) and before its end (b), from the
-- fill's start on (p) and before its end (q), from the right stroke's start on (u) and before its end (v)
fill_or_right : (p q u v : Bool) → (q ≡ true → u ≡ false) → p && q ≡ true → u && v ≡ false
fill_or_right true true u v f h = rw (f refl)
fill_or_right true false u v f h = absurd (false≢true h)
fill_or_right false q u v f h = absurd (false≢true h)

beside_fill : (a b p q u v : Bool) → (p ≡ false → b ≡ true) → (q ≡ false → u ≡ true) → (b ≡ true → v ≡ true) → (u ≡ true → a ≡ true)
    → p && q ≡ false → a && v ≡ (a && b) || (u && v)
beside_fill a b true true u v f g h k off = absurd (false≢true (sym off))
beside_fill true true true false true v f g h k off = h refl
beside_fill true false true false true v f g h k off = refl
beside_fill false b true false true v f g h k off = absurd (false≢true (k refl))
beside_fill a b true false false v f g h k off = absurd (false≢true (g refl))
beside_fill a true false q u true f g h k off = either a u k
  where
    either : (a u : Bool) → (u ≡ true → a ≡ true) → a && true ≡ (a && true) || (u && true)
    either true u k = refl
    either false true k = absurd (false≢true (k refl))
    either false false k = refl
beside_fill a true false q u false f g h k off = absurd (false≢true (h refl))
beside_fill a false false q u v f g h k off = absurd (false≢true (f refl))

module _ (runs : StyledRuns) (fill : Paint) (nested : Nested runs fill) (x : ℤ) where
  fill_holds : contains runs.fill x ≡ true → contains runs.stroke_right x ≡ false
  fill_holds =
      let after = nested.right_after in
      fill_or_right (le_z runs.fill.start x) (lt_z x runs.fill.end) (le_z runs.stroke_right.start x)
      (lt_z x runs.stroke_right.end)
      (λ e. omega (arith, int))

  fill_lacks : contains runs.fill x ≡ false
      → contains (whole_run runs) x ≡ contains runs.stroke_left x || contains runs.stroke_right x
  fill_lacks =
      let left_reaches = nested.left_reaches in
      let right_reaches = nested.right_reaches in
      let left_within = nested.left_within in
      let right_within = nested.right_within in
      beside_fill (le_z runs.stroke_left.start x) (lt_z x runs.stroke_left.end) (le_z runs.fill.start x)
      (lt_z x runs.fill.end)
      (le_z runs.stroke_right.start x) (lt_z x runs.stroke_right.end)
      (λ e. omega (arith, int)) (λ e. omega (arith, int)) (λ e. omega (arith, int)) (λ e. omega (arith, int))

-- an empty run paints nothing
empty_holds_none : (e x : ℤ) → le_z e x && lt_z x e ≡ false
empty_holds_none e x = by_test (le_z e x) refl
  where
    by_test : (t : Bool) → le_z e x ≡ t → t && lt_z x e ≡ false
    by_test true from = omega (arith, int)
    by_test false from = refl

run_over_empty : (e : ℤ) (paint : Paint) (row : List ℕ) → run_over (record { start = e; end = e }) paint row ≡ row
run_over_empty e paint row =
    let long = run_over_length (record { start = e; end = e }) paint row in
    ext_get_or 0 _ _ long
    (λ k h.
    run_over_byte (record { start = e; end = e }) paint row k (omega (arith, long))
    ∙ ap (λ (t : Bool). cond t (under paint (get_or row k 0)) (get_or row k 0)) (empty_holds_none e (pos k)))

-- ---- the row
-- the whole run, the fill, and no right run
abbrev pub merged_runs : StyledRuns → StyledRuns
merged_runs runs =
    record {
      stroke_left = whole_run runs;
      fill = runs.fill;
      stroke_right = record { start = runs.stroke_right.end; end = runs.stroke_right.end };
    }

module _ (style : Style) (runs : StyledRuns) (nested : Nested runs style.fill) (row : List ℕ) where
  abbrev under_fill : List ℕ
  under_fill = run_over (whole_run runs) style.stroke row

  nested_byte : (k : ℕ) → k < length row
      → byte_over runs.fill style.fill k (byte_over (whole_run runs) style.stroke k (get_or row k 0))
      ≡ byte_over runs.stroke_right style.stroke k
      (byte_over runs.fill style.fill k (byte_over runs.stroke_left style.stroke k (get_or row k 0)))
  nested_byte k h =
      rw nested.fill_is
      (byte_nested (contains runs.stroke_left (pos k)) (contains runs.fill (pos k)) (contains runs.stroke_right (pos k))
      (contains (whole_run runs) (pos k)) style.stroke nested.colour (get_or row k 0)
      (fill_holds runs style.fill nested (pos k)) (fill_lacks runs style.fill nested (pos k)))

  nested_row : run_over runs.fill style.fill under_fill ≡ overpaint_runs style runs row
  nested_row =
      let under_long = run_over_length (whole_run runs) style.stroke row in
      let long = run_over_length runs.fill style.fill under_fill ∙ under_long in
      ext_get_or 0 _ _ (long ∙ sym (overpaint_runs_length style runs row))
      (λ k h.
      let within : k < length row = omega (arith, long) in
      run_over_byte runs.fill style.fill under_fill k (omega (arith, under_long))
      ∙ ap (byte_over runs.fill style.fill k) (run_over_byte (whole_run runs) style.stroke row k within)
      ∙ nested_byte k within
      ∙ sym (overpaint_runs_byte style runs row k within))

  pub merged_row : overpaint_runs style (merged_runs runs) row ≡ overpaint_runs style runs row
  unfolding overpaint_runs
  merged_row = run_over_empty runs.stroke_right.end style.stroke (run_over runs.fill style.fill under_fill) ∙ nested_row
