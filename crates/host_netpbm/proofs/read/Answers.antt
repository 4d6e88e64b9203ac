-- `host_netpbm::read` meets its contract: a refusal is told by its number.
use Rattle.host_answers.proofs.Telling.{tells_refusal}
use borrow.Author.Rules.{rules}
use Rattle.host_netpbm.proofs.read.Goals as goal

pub returns-in-Err-clause-tells : goal.returns-in-Err-clause-tells
returns-in-Err-clause-tells c = tells_refusal c.args.out.now (search rules) c.number.ensures
