-- `wunqaber::wunqaber_styled_row` meets its contract: the call keeps the same promise.
use mir.Syntax.{w32}
use mir.Val.{SFits}
use mir.Facts.{to_z-of_z}
use Rattle.host_answers.proofs.Telling.{tells_as}
use Rattle.host_styled.specs.Styled.{styled_row_said}
use borrow.Author.Rules.{rules}
use Rattle.wunqaber.proofs.wunqaber_styled_row.Goals as goal

pub returns : goal.returns
returns c =
    let a = c.args in
    let y_fits : SFits w32 a.y = search rules in
    tells_as (λ i. styled_row_said a.figure.now a.style.now (to_z-of_z y_fits i)) c.styled_row.ensures
