-- Document 01, 'Sheet', last paragraph: a figure with its style painted in one call on a canvas given with W and H.
-- Assumes nothing.
use Rattle.std.specs.Prelude.{◌≡◌, List, [], ℕ, suc, length, replicate}
use Rattle.refusal.specs.Refusal.{or_else, Outcome, unless, keeping, Checked, passed, outcome}
use Rattle.figure.specs.declared.Figure.{Figure}
use Rattle.style.specs.declared.Style.{Style}
use Rattle.canvas_size.specs.CanvasSize.{canvas_size_check, canvas_length_check}
use Rattle.book.specs.Sheet.{answers, after_all, opened}
use Rattle.book.specs.Whole.{overpaint_rows, whole_calls}
use Rattle.drawing.specs.Drawing.{styled_figure, styled_check, drawing}

-- 1, 2, 3 and 5 of the figure and its style, then 6 and 8 of the canvas
unfoldable pub paint_check : Figure → Style → ℕ → ℕ → List ℕ → Checked
paint_check f style W H canvas =
    or_else (or_else (styled_check f style) (canvas_size_check W H)) (canvas_length_check W H (length canvas))

-- the canvas painted: each of its rows, from row 0 down, is the row as lent overpainted by the styled row there
unfoldable pub painted : Figure → Style → ℕ → ℕ → List ℕ → List ℕ
painted f style W H canvas = overpaint_rows drawing W (styled_figure f style) 0 H canvas

-- what an answer says: a refusal its number, else nothing
abbrev pub paint_outcome : Checked → Outcome
paint_outcome = outcome (λ done. [])

-- `paint_figure`: its answer, and the canvas afterwards
abbrev pub paint_call : Figure → Style → ℕ → ℕ → List ℕ → Outcome
paint_call f style W H canvas = unless (paint_check f style W H canvas) []

abbrev pub canvas_after : Figure → Style → ℕ → ℕ → List ℕ → List ℕ
canvas_after f style W H canvas = keeping (paint_check f style W H canvas) canvas (painted f style W H canvas)

-- a sheet just opened takes the figure, accepts a paint call for each of its rows, and comes to the canvas that the one call leaves
pub record SheetComesToTheSame (f : Figure) (style : Style) (W H : ℕ) (lent : List ℕ) : Type 0 where
  pub all_accepted : answers drawing W H (opened drawing lent) (whole_calls drawing (styled_figure f style))
      ≡ replicate (suc (drawing.rows (styled_figure f style))) passed
  pub same_bytes : (after_all drawing W H (opened drawing lent) (whole_calls drawing (styled_figure f style))).canvas
      ≡ canvas_after f style W H lent

-- 'the bytes are then those of a sheet with that one layer painted to the end': so it is wherever the one call is not refused
-- (`sheet_comes_to_the_same`, proofs/SingleLayer.antt)
abbrev pub OneCallIsSheet : Type 0
OneCallIsSheet =
    (f : Figure) (style : Style) (W H : ℕ) (lent : List ℕ) → paint_check f style W H lent ≡ passed → SheetComesToTheSame f style W H lent
