-- `host_figures::confined_radii` meets its contract: what is not answered by values is told by its number.
use mathlib.Core.Path.{sym, ◌∙◌}
use Rattle.host_answers.specs.HostAnswers.{no_record}
use Rattle.host_answers.proofs.Telling.{tells_as, tells_refusal, tells_refused, tells_nothing}
use borrow.Author.Rules.{rules}
use Rattle.host_figures.proofs.confined_radii.Goals as goal

pub returns-then-not-is_figure : goal.returns-then-not-is_figure
returns-then-not-is_figure c = rw (sym c.is_figure.ensures ∙ c.if-not-is_figure.true) (tells_refused no_record c.args.out.now)

pub returns-in-Err : goal.returns-in-Err
returns-in-Err c = rw (sym c.is_figure.ensures ∙ c.if-not-is_figure.false) (tells_refusal c.args.out.now (search rules) c.number.ensures)

pub returns-in-Ok-None : goal.returns-in-Ok-None
returns-in-Ok-None c = rw (sym c.is_figure.ensures ∙ c.if-not-is_figure.false) (tells_as (search rules) (tells_nothing c.args.out.now))

pub returns-in-Ok-Some : goal.returns-in-Ok-Some
returns-in-Ok-Some c = rw (sym c.is_figure.ensures ∙ c.if-not-is_figure.false) (tells_as (search rules) c.put_confined_radii.ensures)
