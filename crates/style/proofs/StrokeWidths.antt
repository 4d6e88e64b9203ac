-- Laws of the outside and the inside width: together they make up the stroke width, so neither is above it; a style that passes
-- its check is within the limit.
-- Assumes nothing.
use Rattle.refusal.specs.Refusal.{passed}
use mathlib.Core.Path.{◌≡◌}
use Prim.Native.Nat.{ℕ, ◌+◌, ◌≤◌}
use native.Mathlib.Omega.{arith}
use Rattle.refusal.specs.declared.Refusal.TheVariants.{Offset}
use Rattle.geometry.specs.Limits.{max_stroke_width}
use Rattle.refusal.proofs.Checks.{passed_above}
use Rattle.style.specs.declared.StrokeAlignment.{StrokeAlignment}
use Rattle.style.specs.declared.StrokeAlignment.TheVariants.{Inside, Center, Outside}
use Rattle.style.specs.declared.Style.{Style}
use Rattle.style.specs.Style.{style_check, outside_width, inside_width, outside_stroke_width, inside_stroke_width}

pub widths_make_stroke : (alignment : StrokeAlignment) (s : ℕ) → outside_width alignment s + inside_width alignment s ≡ s
widths_make_stroke Inside s = omega arith
widths_make_stroke Center s = omega arith
widths_make_stroke Outside s = omega arith

pub stroke_widths_make_stroke : (style : Style) → outside_stroke_width style + inside_stroke_width style ≡ style.stroke_width
unfolding outside_stroke_width inside_stroke_width
stroke_widths_make_stroke style = widths_make_stroke style.alignment style.stroke_width

pub outside_within_stroke : (style : Style) → outside_stroke_width style ≤ style.stroke_width
outside_within_stroke style = omega (arith, stroke_widths_make_stroke style)

pub inside_within_stroke : (style : Style) → inside_stroke_width style ≤ style.stroke_width
inside_within_stroke style = omega (arith, stroke_widths_make_stroke style)

-- ---- a style within the limit
pub style_passed : (style : Style) → style_check style ≡ passed → style.stroke_width ≤ max_stroke_width
unfolding style_check
style_passed style e = passed_above max_stroke_width style.stroke_width Offset e

pub outside_passed : (style : Style) → style_check style ≡ passed → outside_stroke_width style ≤ max_stroke_width
outside_passed style e = omega (arith, style_passed style e, outside_within_stroke style)
