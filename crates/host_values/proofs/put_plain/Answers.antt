-- `host_values::put_plain` meets its contract: the numbers are put as they were made.
use mathlib.Core.List.{[], ◌∷◌}
use lib.IntN.{pos}
use Rattle.host_answers.proofs.Telling.{tells_put}
use Rattle.host_values.proofs.put_plain.Goals as goal

pub returns : goal.returns
returns c =
    let at_plain_numbers = c.plain_numbers-values in
    let a = c.args in
    let r = a.rectangle in
    tells_put (pos a.kind) (r.top_left.x ∷ r.top_left.y ∷ pos r.size.width ∷ pos r.size.height ∷ [])
    _ _ c.plain_numbers-values.ensures _ _ c.put_numbers.ensures.value c.put_numbers.ensures.out_after
