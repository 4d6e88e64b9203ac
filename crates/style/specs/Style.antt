-- Document 01, 'The records' (Paint, Style) and 'Rectangle and offset' (outside and inside width), after `primitive_style.rs`.
-- Assumes nothing.
use Rattle.std.specs.Prelude.{List, [], ◌∷◌, ℕ, ◌+◌, ◌/◌, ℤ, pos, Option, Result}
use Rattle.refusal.specs.declared.Refusal.{Refusal}
use Rattle.refusal.specs.declared.Refusal.TheVariants.{Offset}
use Rattle.geometry.specs.Limits.{max_stroke_width}
use Rattle.refusal.specs.Refusal.{Checked, refuse_if, above, Outcome, outcome, unless}
use Rattle.style.specs.declared.StrokeAlignment.{StrokeAlignment}
use Rattle.style.specs.declared.StrokeAlignment.TheVariants.{Inside, Center, Outside}
use Rattle.style.specs.declared.Style.{Style}
use Rattle.style.specs.declared.Widths.{Widths}

-- what a run is painted with: nothing, or a colour byte
abbrev pub Paint : Type 0
Paint = Option ℕ

-- the alignment of a style that is made without one (`PrimitiveStyle::const_default`)
unfoldable pub default_alignment : StrokeAlignment
default_alignment = Center

-- a style that is made without an alignment
abbrev pub styled_by_default : Paint → Paint → ℕ → Style
styled_by_default stroke fill width =
    record { stroke = stroke; fill = fill; stroke_width = width; alignment = default_alignment }

-- a style with another alignment, and all else as it was
abbrev pub aligned : Style → StrokeAlignment → Style
aligned style alignment =
    record { stroke = style.stroke; fill = style.fill; stroke_width = style.stroke_width; alignment = alignment }

-- 5: a stroke width above the limit
unfoldable pub style_check : Style → Checked
style_check style = refuse_if (above max_stroke_width style.stroke_width) Offset

-- the outside width of stroke width s: 0, floor(s / 2), s (`outside_stroke_width`)
abbrev pub outside_width : StrokeAlignment → ℕ → ℕ
outside_width Inside s = 0
outside_width Center s = s / 2
outside_width Outside s = s

-- the inside width of stroke width s: s, floor((s + 1) / 2), 0 (`inside_stroke_width`)
abbrev pub inside_width : StrokeAlignment → ℕ → ℕ
inside_width Inside s = s
inside_width Center s = (s + 1) / 2
inside_width Outside s = 0

-- both widths of a style
unfoldable pub outside_stroke_width : Style → ℕ
outside_stroke_width style = outside_width style.alignment style.stroke_width

unfoldable pub inside_stroke_width : Style → ℕ
inside_stroke_width style = inside_width style.alignment style.stroke_width

-- what an answer says
abbrev pub widths_values : Widths → List ℤ
widths_values w = pos w.outside ∷ pos w.inside ∷ []

abbrev pub widths_outcome : Result Widths Refusal → Outcome
widths_outcome = outcome widths_values

-- `Style::widths`: the outside and then the inside width
abbrev pub widths_call : Style → Outcome
widths_call style = unless (style_check style) (pos (outside_stroke_width style) ∷ pos (inside_stroke_width style) ∷ [])
