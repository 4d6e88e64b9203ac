-- `host_figures::ellipse_with_center` meets its contract: what is not answered by values is told by its number.
use Rattle.host_answers.proofs.Telling.{tells_refusal}
use borrow.Author.Rules.{rules}
use Rattle.host_figures.proofs.ellipse_with_center.Goals as goal

pub returns-in-Err : goal.returns-in-Err
returns-in-Err c = tells_refusal c.args.out.now (search rules) c.number.ensures
