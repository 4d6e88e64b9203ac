-- `host_netpbm::put_sides` meets its contract: each number is put as 32 bits hold it.
use mathlib.Core.List.{[], ◌∷◌}
use lib.IntN.{pos}
use mir.Syntax.{w32}
use mir.Val.{to_z, of_z}
use Rattle.host_answers.proofs.Telling.{held_read, tells_put}
use Rattle.host_netpbm.proofs.put_sides.Goals as goal

pub returns : goal.returns
returns c =
    let size = c.args.size in
    let width = c.held in
    let height = c.held-2 in
    tells_put (pos size.width) (pos size.height ∷ []) _ (to_z w32 (of_z w32 c.held.result) ∷ to_z w32 (of_z w32 c.held-2.result) ∷ [])
    (λ i. held_read size.width c.held.ensures i ∷ held_read size.height c.held-2.ensures i ∷ []) _ _
    c.put_numbers.ensures.value c.put_numbers.ensures.out_after
