-- `host_figures::offset` meets its contract: what is not answered by values is told by its number.
use mathlib.Core.Path.{sym, ◌∙◌}
use Rattle.host_answers.specs.HostAnswers.{no_record}
use Rattle.host_answers.proofs.Telling.{tells_refusal, tells_refused}
use borrow.Author.Rules.{rules}
use Rattle.host_figures.proofs.offset.Goals as goal

pub returns-then-not-is_figure : goal.returns-then-not-is_figure
returns-then-not-is_figure c = rw (sym c.is_figure.ensures ∙ c.if-not-is_figure.true) (tells_refused no_record c.args.out.now)

pub returns-in-Err : goal.returns-in-Err
returns-in-Err c = rw (sym c.is_figure.ensures ∙ c.if-not-is_figure.false) (tells_refusal c.args.out.now (search rules) c.number.ensures)
