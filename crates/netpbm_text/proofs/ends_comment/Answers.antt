-- `netpbm_text::ends_comment` meets its contract: the tests made are the definition's.
use Rattle.netpbm_text.specs.Bytes.{ends_comment}
use borrow.Author.Rules.{rules}
use Rattle.netpbm_text.proofs.ends_comment.Goals as goal

pub returns : goal.returns
unfolding ends_comment
returns c = search rules
