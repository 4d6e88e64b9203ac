-- `host_styled::styled_bounding_box` meets its contract: what is not answered by values is told by its number.
use mathlib.Core.Path.{sym, ◌∙◌}
use Rattle.host_answers.specs.HostAnswers.{no_record}
use Rattle.host_answers.proofs.Telling.{tells_as, tells_refused, tells_refusal}
use borrow.Author.Rules.{rules}
use Rattle.host_styled.proofs.styled_bounding_box.Goals as goal

pub returns-then-not-is_figure : goal.returns-then-not-is_figure
returns-then-not-is_figure c = rw (sym c.is_figure.ensures ∙ c.if-not-is_figure.true) (tells_refused no_record c.args.out.now)

pub returns-then-not-is_style : goal.returns-then-not-is_style
returns-then-not-is_style c = rw (sym c.is_figure.ensures ∙ c.if-not-is_figure.false, sym c.is_style.ensures ∙ c.if-not-is_style.true) (tells_refused no_record c.args.out.now)

pub returns-in-Err : goal.returns-in-Err
returns-in-Err c = rw (sym c.is_figure.ensures ∙ c.if-not-is_figure.false, sym c.is_style.ensures ∙ c.if-not-is_style.false) (tells_refusal c.args.out.now (search rules) c.number.ensures)

pub returns-in-Ok : goal.returns-in-Ok
returns-in-Ok c = rw (sym c.is_figure.ensures ∙ c.if-not-is_figure.false, sym c.is_style.ensures ∙ c.if-not-is_style.false) (tells_as (search rules) c.put_rectangle.ensures)
