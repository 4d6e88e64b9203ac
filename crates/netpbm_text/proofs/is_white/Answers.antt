-- `netpbm_text::is_white` meets its contract: the tests made are the definition's.
use Rattle.netpbm_text.specs.Bytes.{white}
use borrow.Author.Rules.{rules}
use Rattle.netpbm_text.proofs.is_white.Goals as goal

pub returns : goal.returns
unfolding white
returns c = search rules
