-- `netpbm_parser::piece_end` meets its contract: the byte there, if there is one, is whitespace, begins a comment, or does neither.
use mathlib.Core.Path.{sym, ◌∙◌}
use Rattle.netpbm_parser.proofs.Gaps.{is_hash, no_hash, piece_at_end, piece_white, piece_comment, piece_none}
use native.Mathlib.Omega.{arith}
use Rattle.netpbm_parser.proofs.piece_end.Goals as goal

pub returns-then-file-at : goal.returns-then-file-at
returns-then-file-at c =
    let a = c.args in
    piece_at_end a.file.now a.at c.if-file-at.true c.requires

pub returns-then-is_white : goal.returns-then-is_white
returns-then-is_white c =
    let a = c.args in
    piece_white a.file.now a.at (omega arith) (sym c.is_white.ensures ∙ c.if-is_white.true)

pub returns-then-file-at-eq35 : goal.returns-then-file-at-eq35
returns-then-file-at-eq35 c =
    let a = c.args in
    let dark = sym c.is_white.ensures ∙ c.if-is_white.false in
    let end = c.comment_end.ensures in
    piece_comment a.file.now a.at _ (omega arith) dark (is_hash _ c.if-file-at-eq35.true) c.comment_end.ensures.0 c.comment_end.ensures.1 c.comment_end.ensures.2

pub returns : goal.returns
returns c =
    let a = c.args in
    let dark = sym c.is_white.ensures ∙ c.if-is_white.false in
    piece_none a.file.now a.at (omega arith) dark (no_hash _ c.if-file-at-eq35.false)
