-- `host_points::points` meets its contract: once the figure and the place for the number are checked the points are listed, and
-- the answer told.
use mathlib.Core.Path.{refl, sym, ◌∙◌}
use Rattle.host_answers.specs.HostAnswers.{no_record}
use Rattle.host_answers.proofs.Telling.{tells_refused, tells_refusal}
use Rattle.refusal.proofs.Checks.{and_or_else}
use borrow.Author.Rules.{rules}
use Rattle.host_points.proofs.points.Goals as goal

pub returns-then-not-is_figure : goal.returns-then-not-is_figure
returns-then-not-is_figure c =
    rw (sym c.is_figure.ensures ∙ c.if-not-is_figure.true) (record { tells = tells_refused no_record c.args.out.now; list_after = refl })

pub returns-in-Err-clause-tells : goal.returns-in-Err-clause-tells
returns-in-Err-clause-tells c =
    rw (sym c.is_figure.ensures ∙ c.if-not-is_figure.false)
    (tells_refusal c.args.out.now (search (rules, and_or_else)) c.number.ensures)

pub returns-in-Err-points-clause-tells : goal.returns-in-Err-points-clause-tells
returns-in-Err-points-clause-tells c =
    rw (sym c.is_figure.ensures ∙ c.if-not-is_figure.false)
    (tells_refusal c.args.out.now (search (rules, and_or_else)) c.number-in-Err-points.ensures)
