-- What painting a figure in one call says to a host that gives numbers, and what it leaves.
-- Assumes nothing.
use Rattle.std.specs.Prelude.{◌&&◌, List, ℕ, ℤ}
use Rattle.refusal.specs.Refusal.{Outcome}
use Rattle.paint.specs.Paint.{paint_call, canvas_after}
use Rattle.host_records.specs.RecordNumbers.{is_figure, is_style, figure_of, style_of}
use Rattle.host_answers.specs.HostAnswers.{of_record, if_record}

-- `paint_figure`
abbrev pub paint_said : List ℤ → List ℤ → ℕ → ℕ → List ℕ → Outcome
paint_said figure style W H canvas =
    of_record (is_figure figure && is_style style) (paint_call (figure_of figure) (style_of style) W H canvas)

-- the canvas after it
abbrev pub painted_after : List ℤ → List ℤ → ℕ → ℕ → List ℕ → List ℕ
painted_after figure style W H canvas =
    if_record (is_figure figure && is_style style) canvas (canvas_after (figure_of figure) (style_of style) W H canvas)
