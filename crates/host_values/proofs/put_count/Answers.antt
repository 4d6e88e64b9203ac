-- `host_values::put_count` meets its contract: the number is put as 32 bits hold it.
use mathlib.Core.List.{[], ◌∷◌}
use lib.IntN.{pos}
use mir.Syntax.{w32}
use mir.Val.{to_z, of_z}
use Rattle.host_answers.proofs.Telling.{held_read, tells_put}
use Rattle.host_values.proofs.put_count.Goals as goal

pub returns : goal.returns
returns c =
    let at_held = c.held in
    let a = c.args in
    (tells_put (pos a.n) ([]) _ (to_z w32 (of_z w32 c.held.result) ∷ [])
    (λ i. held_read a.n c.held.ensures i ∷ []) _ _ c.put_numbers.ensures.value c.put_numbers.ensures.out_after)
