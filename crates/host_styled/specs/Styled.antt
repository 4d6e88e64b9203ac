-- What the calls on styled figures say to a host that gives numbers.
-- Assumes nothing.
use Rattle.std.specs.Prelude.{◌&&◌, List, ℤ}
use Rattle.refusal.specs.Refusal.{Outcome}
use Rattle.styled.specs.Calls.{styled_row_call, styled_bounding_box_call}
use Rattle.host_records.specs.RecordNumbers.{is_figure, is_style, figure_of, style_of}
use Rattle.host_answers.specs.HostAnswers.{of_record}

-- `styled_row`: the figure and the style are both read
abbrev pub styled_row_said : List ℤ → List ℤ → ℤ → Outcome
styled_row_said figure style y = of_record (is_figure figure && is_style style) (styled_row_call (figure_of figure) (style_of style) y)

-- the same of `styled_bounding_box`
abbrev pub styled_bounding_box_said : List ℤ → List ℤ → Outcome
styled_bounding_box_said figure style = of_record (is_figure figure && is_style style) (styled_bounding_box_call (figure_of figure) (style_of style))
