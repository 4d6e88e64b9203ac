-- `netpbm_parser::after_white` meets its contract: the byte there, if there is one, is whitespace or not.
use mathlib.Core.Path.{sym, ◌∙◌}
use Rattle.netpbm_parser.proofs.Gaps.{white_at_end, white_read, white_missing}
use native.Mathlib.Omega.{arith}
use Rattle.netpbm_parser.proofs.after_white.Goals as goal

pub returns-then-file-at : goal.returns-then-file-at
returns-then-file-at c = record { result_value = sym (white_at_end c.args.file.now c.args.at c.if-file-at.true); place_within = tt }

pub returns-then-is_white : goal.returns-then-is_white
returns-then-is_white c =
    let a = c.args in record { result_value = sym (white_read a.file.now a.at (omega arith) (sym c.is_white.ensures ∙ c.if-is_white.true)); place_within = omega arith }

pub returns : goal.returns
returns c =
    let a = c.args in record { result_value = sym (white_missing a.file.now a.at (omega arith) (sym c.is_white.ensures ∙ c.if-is_white.false)); place_within = tt }
