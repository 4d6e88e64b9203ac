-- `netpbm_text::is_digit` meets its contract: the tests made are the definition's.
use Rattle.netpbm_text.specs.Bytes.{is_digit}
use borrow.Author.Rules.{rules}
use Rattle.netpbm_text.proofs.is_digit.Goals as goal

pub returns : goal.returns
unfolding is_digit
returns c = search rules
