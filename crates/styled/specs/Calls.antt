-- What the calls on styled figures promise: the lowest of the refusals 1 to 5 that applies, else the values of `Styled`.
-- Assumes nothing.
use Rattle.refusal.specs.declared.Refusal.{Refusal}
use Rattle.scanline.specs.Rows.{StyledRow}
use Rattle.std.specs.Prelude.{List, [], ◌∷◌, ◌++◌, ℤ, Some, None, Option, Result}
use Rattle.refusal.specs.Refusal.{or_else, Outcome, unless, outcome, any_values}
use Rattle.rectangle.specs.Calls.{range_values, rectangle_values}
use Rattle.geometry.specs.Checks.{asked_check}
use Rattle.scanline.specs.declared.StyledScanline.{StyledScanline}
use Rattle.figure.specs.declared.Figure.{Figure}
use Rattle.figure.specs.Calls.{figure_check}
use Rattle.style.specs.declared.Style.{Style}
use Rattle.style.specs.Style.{style_check}
use Rattle.styled.specs.Styled.{styled_bounding_box, styled_row}

-- a styled row ('The records'): its y, and the ends of the left stroke, the fill and the right stroke as computed
abbrev pub styled_scanline_values : StyledScanline → List ℤ
styled_scanline_values s = s.y ∷ range_values s.stroke_left ++ range_values s.fill ++ range_values s.stroke_right

-- what an answer says; no values for 'no row'
abbrev pub styled_row_outcome : Result (Option StyledScanline) Refusal → Outcome
styled_row_outcome = outcome (any_values styled_scanline_values)

-- the values of the styled row at y
abbrev pub styled_row_values : ℤ → StyledRow → List ℤ
styled_row_values y (Some runs) =
    styled_scanline_values (record { y = y; stroke_left = runs.stroke_left; fill = runs.fill; stroke_right = runs.stroke_right })
styled_row_values y None = []

-- `styled_row`: 1, 2, 3, 4, 5
abbrev pub styled_row_call : Figure → Style → ℤ → Outcome
styled_row_call f style y =
    unless (or_else (or_else (figure_check f) (asked_check y)) (style_check style)) (styled_row_values y (styled_row f style y))

-- `styled_bounding_box`: 1, 2, 3, 5
abbrev pub styled_bounding_box_call : Figure → Style → Outcome
styled_bounding_box_call f style = unless (or_else (figure_check f) (style_check style)) (rectangle_values (styled_bounding_box f style))
