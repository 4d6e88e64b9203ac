-- `paint::paint_figure` meets its contract: the checks that have passed bound what is painted, and painting all rows overpaints every
-- canvas row.
use mathlib.Core.Path.{◌≡◌, sym, ◌∙◌}
use native.Mathlib.Omega.{arith}
use Rattle.refusal.specs.Refusal.{passed}
use Rattle.paint.specs.Paint.{paint_check}
use Rattle.paint.proofs.Passed.{PaintPassed, paint_passed}
use Rattle.paint.proofs.Painted.{whole_is_painted}
use Rattle.paint.proofs.paint_figure.Lts
use Rattle.paint.proofs.paint_figure.Reads
use Rattle.paint.proofs.paint_figure.Tie
use Rattle.paint.proofs.paint_figure.Goals as goal

-- the facts known where all three checks have passed
abbrev In-Passed : Type 0
In-Passed = Lts.Past-After-known_told5 Tie.the-claims Reads.Pre Reads.Post Tie.handed_clauses

checked : (c : In-Passed) → paint_check c.args.figure c.args.style c.args.width c.args.height c.args.canvas.now ≡ passed
unfolding paint_check
checked c =
    rw (
      sym c.check.ensures ∙ c.in_ok-check.was,
      sym c.check-2.ensures ∙ c.in_ok-check-2.was,
      sym c.check_length.ensures ∙ c.in_ok-check_length.was,
    )

bounds : (c : In-Passed) → PaintPassed c.args.figure c.args.style c.args.width c.args.height c.args.canvas.now
bounds c = paint_passed _ _ _ _ _ (checked c)

pub paint_whole-requires : goal.paint_whole-requires
paint_whole-requires c =
    let p = bounds c.before in
    let wide = p.sides.width_most in
    let high = p.sides.height_most in
    let stroke = p.stroke in
    record { canvas_len = p.size; width_le_wide_side = (omega arith, omega arith); own_figure = p.figure; stroke_width_bound = omega arith }

pub returns-clause-canvas_after : goal.returns-clause-canvas_after
returns-clause-canvas_after c =
    let a = c.args in
    let passed_here = c.before.before.before.before.before in
    rw (checked passed_here)
    (c.paint_whole.ensures ∙ whole_is_painted a.figure a.style a.width a.height a.canvas.now (bounds passed_here).size)
