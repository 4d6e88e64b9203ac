-- `host_values::put_rectangle` meets its contract: each number is put in its place.
use mathlib.Core.List.{[], ◌∷◌}
use lib.IntN.{pos}
use mir.Syntax.{w32}
use mir.Val.{to_z, of_z}
use Rattle.host_answers.proofs.Telling.{read_held, held_read, tells_put}
use borrow.Author.Rules.{rules}
use Rattle.host_values.proofs.put_rectangle.Goals as goal

pub returns : goal.returns
returns c =
    let at_held2 = c.held-2 in
    let at_held = c.held in
    let r = c.args.rectangle in
    (tells_put r.top_left.x (r.top_left.y ∷ pos r.size.width ∷ pos r.size.height ∷ []) _
    (to_z w32 (of_z w32 r.top_left.x) ∷ to_z w32 (of_z w32 r.top_left.y) ∷ to_z w32 (of_z w32 c.held.result) ∷ to_z w32
    (of_z w32 c.held-2.result) ∷ [])
    (λ i. read_held r.top_left.x (search rules) i ∷ read_held r.top_left.y (search rules) i ∷ held_read r.size.width
    c.held.ensures i ∷ held_read r.size.height c.held-2.ensures i ∷ []) _ _ c.put_numbers.ensures.value
    c.put_numbers.ensures.out_after)
