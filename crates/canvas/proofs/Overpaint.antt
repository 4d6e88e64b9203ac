-- An overpainted row: it is as long as before, and each of its bytes is the stroke, the fill or what was there, by the runs.
-- Assumes nothing.
use Rattle.style.specs.Style.{Paint}
use Rattle.scanline.specs.Rows.{StyledRow}
use Rattle.std.specs.Prelude.{Some, None}
use mathlib.Core.Path.{◌≡◌, refl, ap, subst, ◌∙◌}
use mathlib.Core.Bool.{Bool, true, false, cond, ◌&&◌, ◌||◌}
use mathlib.Core.List.{List}
use Prim.Native.Nat.{ℕ, ◌<◌}
use native.Mathlib.Omega.{arith}
use lib.IntN.{ℤ, pos}
use lib.ListN.{length, get_or}
use lib.Signed.{le_z, lt_z}
use Rattle.signed.proofs.Laws.{lt_z_true, lt_le_z}
use Rattle.geometry_range.specs.declared.Range.{Range}
use Rattle.geometry_range.specs.Range.{contains}
use Rattle.scanline.specs.declared.StyledRuns.{StyledRuns}
use Rattle.style.specs.declared.Style.{Style}
use Rattle.canvas_run.specs.Run.{under, byte_over, run_over}
use Rattle.canvas.specs.Canvas.{overpaint_runs, overpaint}
use Rattle.canvas_run.proofs.Runs.{run_over_length, run_over_byte}

-- ---- length
pub overpaint_runs_length : (style : Style) (runs : StyledRuns) (row : List ℕ)
    → length (overpaint_runs style runs row) ≡ length row
unfolding overpaint_runs
overpaint_runs_length style runs row = run_over_length _ _ _ ∙ run_over_length _ _ _ ∙ run_over_length _ _ _

pub overpaint_length : (style : Style) (styled : StyledRow) (row : List ℕ) → length (overpaint style styled row) ≡ length row
overpaint_length style (Some runs) row = overpaint_runs_length style runs row
overpaint_length style None row = refl

-- ---- byte k, of any three runs: under left, then fill, then right
pub overpaint_runs_byte : (style : Style) (runs : StyledRuns) (row : List ℕ) (k : ℕ) → k < length row
    → get_or (overpaint_runs style runs row) k 0
    ≡ byte_over runs.stroke_right style.stroke k
    (byte_over runs.fill style.fill k (byte_over runs.stroke_left style.stroke k (get_or row k 0)))
unfolding overpaint_runs
overpaint_runs_byte style runs row k h =
    let after_left : List ℕ = run_over runs.stroke_left style.stroke row in
    let after_fill : List ℕ = run_over runs.fill style.fill after_left in
    let left_long = run_over_length runs.stroke_left style.stroke row in
    let fill_long = run_over_length runs.fill style.fill after_left in
    run_over_byte runs.stroke_right style.stroke after_fill k (omega (arith, left_long, fill_long))
    ∙ ap (byte_over runs.stroke_right style.stroke k)
    (run_over_byte runs.fill style.fill after_left k (omega (arith, left_long))
    ∙ ap (byte_over runs.fill style.fill k) (run_over_byte runs.stroke_left style.stroke row k h))

-- ---- the runs of a styled row meet: left ends where fill starts, and fill where right starts
pub record Meet (runs : StyledRuns) : Type 0 where
  pub left_fill : runs.stroke_left.end ≡ runs.fill.start
  pub fill_right : runs.fill.end ≡ runs.stroke_right.start

-- of two runs that meet, the second does not hold a column of the first
meeting_runs_apart : (a b : Range) (x : ℤ) → a.end ≡ b.start → contains a x ≡ true → contains b x ≡ false
meeting_runs_apart a b x e = by_tests (le_z a.start x) (lt_z x a.end) refl
  where
    by_tests : (s t : Bool) → lt_z x a.end ≡ t → s && t ≡ true → contains b x ≡ false
    by_tests true true before h =
        let past = lt_le_z a.end x (lt_z_true x a.end before) in
        let past' : le_z b.start x ≡ false = subst (λ (z : ℤ). le_z z x ≡ false) e past in
        rw past'
    by_tests true false before h = let z : ◌≡◌ {A = ℕ} 0 1 = cc in absurd (omega arith)
    by_tests false t before h = let z : ◌≡◌ {A = ℕ} 0 1 = cc in absurd (omega arith)

-- byte k of a row overpainted by runs that meet, as the paper has it: the stroke in either stroke run, the fill in the fill
-- run, else what was there
pub overpaint_pixel : (style : Style) (runs : StyledRuns) (row : List ℕ) (k : ℕ) → Meet runs → k < length row
    → get_or (overpaint_runs style runs row) k 0
    ≡ cond (contains runs.stroke_left (pos k) || contains runs.stroke_right (pos k))
    (under style.stroke (get_or row k 0))
    (byte_over runs.fill style.fill k (get_or row k 0))
overpaint_pixel style runs row k meet h =
    overpaint_runs_byte style runs row k h
    ∙ by_runs (contains runs.stroke_left (pos k)) (contains runs.fill (pos k)) (contains runs.stroke_right (pos k))
    style.stroke style.fill (get_or row k 0)
    (meeting_runs_apart runs.stroke_left runs.fill (pos k) meet.left_fill)
    (meeting_runs_apart runs.fill runs.stroke_right (pos k) meet.fill_right)
  where
    impossible : {X : Type 0} → true ≡ false → X
    impossible e = let z : ◌≡◌ {A = ℕ} 0 1 = cc in absurd (omega arith)

    twice : (stroke : Paint) (byte : ℕ) → under stroke (under stroke byte) ≡ under stroke byte
    twice None byte = refl
    twice (Some colour) byte = refl

    by_runs : (left fill right : Bool) (stroke inner : Paint) (byte : ℕ)
        → (left ≡ true → fill ≡ false) → (fill ≡ true → right ≡ false)
        → cond right
        (under stroke (cond fill (under inner (cond left (under stroke byte) byte)) (cond left (under stroke byte) byte)))
        (cond fill (under inner (cond left (under stroke byte) byte)) (cond left (under stroke byte) byte))
        ≡ cond (left || right) (under stroke byte) (cond fill (under inner byte) byte)
    by_runs true true right stroke inner byte f g = impossible (f refl)
    by_runs true false true stroke inner byte f g = twice stroke byte
    by_runs true false false stroke inner byte f g = refl
    by_runs false true true stroke inner byte f g = impossible (g refl)
    by_runs false true false stroke inner byte f g = refl
    by_runs false false true stroke inner byte f g = refl
    by_runs false false false stroke inner byte f g = refl
