-- `ellipse_rows::row_count` meets its contract: the test of the first row decides.
use mathlib.Core.Path.{sym, ◌∙◌}
use Rattle.ellipse_rows.proofs.Rows.{row_count_relative}
use Rattle.ellipse_rows.proofs.row_count.Goals as goal

pub returns-then-has_rows : goal.returns-then-has_rows
returns-then-has_rows c =
    let a = c.args in
    let r = a.ellipse in sym (row_count_relative r ∙ rw (sym c.has_rows.ensures ∙ c.if-has_rows.true))

pub returns-else-has_rows : goal.returns-else-has_rows
returns-else-has_rows c =
    let a = c.args in
    let r = a.ellipse in sym (row_count_relative r ∙ rw (sym c.has_rows.ensures ∙ c.if-has_rows.false))
