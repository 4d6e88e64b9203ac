-- `ellipse_rows::has_rows` meets its contract: the middle of the first row decides (`first_row_by_middle`).
use mathlib.Core.Path.{sym, ap, ◌∙◌}
use Prim.Native.Nat.{ℕ}
use Rattle.ellipse.specs.Relative.{below_threshold}
use Rattle.ellipse_rows.specs.Relative.{first_row_inside}
use Rattle.ellipse_rows.proofs.Rows.{first_row_by_middle, first_row_no_width, first_row_no_height}
use native.Mathlib.Omega.{arith}
use Rattle.ellipse_rows.proofs.has_rows.Goals as goal

pub returns-then-size-eq0 : goal.returns-then-size-eq0
returns-then-size-eq0 c = sym (ap (λ (n : ℕ). first_row_inside n c.args.size.height) c.if-size-eq0.true ∙ first_row_no_width _)

pub returns-then-size-eq0-2 : goal.returns-then-size-eq0-2
returns-then-size-eq0-2 c = sym (ap (first_row_inside c.args.size.width) c.if-size-eq0-2.true ∙ first_row_no_height _)

pub returns : goal.returns
returns c =
    c.contains.ensures
    ∙ (λ i. below_threshold (c.requires.test_value.0 i) (c.gap.ensures.0 i) (c.gap-2.ensures.0 i))
    ∙ first_row_by_middle c.args.size.width c.args.size.height (omega arith)
