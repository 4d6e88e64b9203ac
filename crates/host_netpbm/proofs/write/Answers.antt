-- `host_netpbm::write` meets its contract: a refusal is told by its number, whether it is found before the file is written or by the call.
use Rattle.refusal.proofs.Checks.{and_or_else}
use Rattle.host_answers.proofs.Telling.{tells_refusal}
use borrow.Author.Rules.{rules}
use Rattle.host_netpbm.proofs.write.Goals as goal

pub returns-in-Err-clause-tells : goal.returns-in-Err-clause-tells
returns-in-Err-clause-tells c = tells_refusal c.args.out.now (search (rules, and_or_else)) c.number.ensures

pub returns-in-Err-write-clause-tells : goal.returns-in-Err-write-clause-tells
returns-in-Err-write-clause-tells c = tells_refusal c.args.out.now (search (rules, and_or_else)) c.number-in-Err-write.ensures
