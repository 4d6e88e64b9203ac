-- Overpainted rows computed: the rows of document 01's cases h and i, the reversed run of case f, runs that leave the row on
-- either side, absent paints, and a row that the figure lacks.
-- Assumes nothing.
use Rattle.scanline.specs.Rows.{StyledRow}
use Rattle.std.specs.Prelude.{Some, None}
use mathlib.Core.Path.{◌≡◌, refl}
use mathlib.Core.List.{List, [], ◌∷◌, ◌++◌, map}
use Prim.Native.Nat.{ℕ}
use lib.IntN.{ℤ, pos, negsuc}
use lib.ListN.{replicate}
use Rattle.style.specs.Style.{styled_by_default, Paint}
use Rattle.canvas_run.specs.Run.{run_over_from}
use Rattle.canvas.specs.Canvas.{overpaint_runs, overpaint}

-- a stroke paint, a fill paint, a styled row, a row before and the row that it must become
record Case : Type 0 where
  stroke : Paint
  fill : Paint
  by : StyledRow
  before : List ℕ
  after : List ℕ

-- the runs s..f, f..g and g..e
abbrev runs : ℤ → ℤ → ℤ → ℤ → StyledRow
runs s f g e =
    Some
    record {
      stroke_left = record { start = s; end = f };
      fill = record { start = f; end = g };
      stroke_right = record { start = g; end = e };
    }

abbrev case : Paint → Paint → StyledRow → List ℕ → List ℕ → Case
case stroke fill by before after = record { stroke = stroke; fill = fill; by = by; before = before; after = after }

abbrev four : List ℕ
four = 1 ∷ 2 ∷ 3 ∷ 4 ∷ []

-- in order: case h, row 0; case i, row 5 and row 1; case f, row 0, which is 6..4; beyond both ends; left of the row; from its
-- end on; fill absent; stroke absent; both absent; reversed fill ends, which let the stroke runs overlap; no such row
abbrev cases : List Case
cases =
    case (Some 7) (Some 9) (runs (pos 0) (pos 1) (pos 9) (pos 10)) (replicate 10 0) (7 ∷ replicate 8 9 ++ (7 ∷ []))
    ∷ case (Some 7) (Some 9) (runs (pos 0) (pos 0) (pos 4) (pos 4)) four (9 ∷ 9 ∷ 9 ∷ 9 ∷ [])
    ∷ case (Some 7) (Some 9) (runs (pos 0) (pos 4) (pos 4) (pos 4)) four (7 ∷ 7 ∷ 7 ∷ 7 ∷ [])
    ∷ case (Some 7) (Some 9) (runs (pos 6) (pos 4) (pos 4) (pos 4)) four four
    ∷ case (Some 7) (Some 9) (runs (negsuc 2) (pos 1) (pos 3) (pos 9)) four (7 ∷ 9 ∷ 9 ∷ 7 ∷ [])
    ∷ case (Some 7) (Some 9) (runs (negsuc 4) (negsuc 2) (negsuc 0) (pos 0)) four four
    ∷ case (Some 7) (Some 9) (runs (pos 4) (pos 5) (pos 6) (pos 9)) four four
    ∷ case (Some 7) None (runs (pos 0) (pos 1) (pos 3) (pos 4)) four (7 ∷ 2 ∷ 3 ∷ 7 ∷ [])
    ∷ case None (Some 0) (runs (pos 0) (pos 1) (pos 3) (pos 4)) four (1 ∷ 0 ∷ 0 ∷ 4 ∷ [])
    ∷ case None None (runs (pos 0) (pos 1) (pos 3) (pos 4)) four four
    ∷ case (Some 7) (Some 9) (runs (pos 0) (pos 3) (pos 1) (pos 4)) four (7 ∷ 7 ∷ 7 ∷ 7 ∷ [])
    ∷ case (Some 7) (Some 9) None four four
    ∷ []

abbrev painted : Case → List ℕ
painted c = overpaint (styled_by_default c.stroke c.fill 1) c.by c.before

cases_hold : map painted cases ≡ map (λ c. c.after) cases
unfolding run_over_from overpaint_runs
cases_hold = refl
