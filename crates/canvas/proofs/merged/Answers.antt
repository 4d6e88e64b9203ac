-- `canvas::merged` meets its contract: runs that are nested paint the same as the whole run and the fill.
use mathlib.Core.Path.{◌∙◌}
use mir.Syntax.{w32}
use mir.Val.{SFits}
use mir.Facts.{to_z-of_z}
use Rattle.canvas.specs.Canvas.{overpaint_runs}
use Rattle.canvas.proofs.Nested.{merged_row}
use borrow.Author.Rules.{rules}
use Rattle.canvas.proofs.merged.Goals as goal

pub returns : goal.returns
returns c =
    let at_if1 = c.if-not-is_nested in
    let at_is_nested = c.is_nested in
    λ row.
    let a = c.args in
    let start_fits : SFits w32 a.runs.stroke_left.start = search rules in
    let end_fits : SFits w32 a.runs.stroke_right.end = search rules in
    let end = to_z-of_z end_fits in
    (λ i.
    overpaint_runs a.style
    (record {
      stroke_left = record { start = to_z-of_z start_fits i; end = end i };
      fill = a.runs.fill;
      stroke_right = record { start = end i; end = end i };
    }) row)
    ∙ merged_row a.style a.runs (c.is_nested.ensures (c.if-not-is_nested.false)) row
