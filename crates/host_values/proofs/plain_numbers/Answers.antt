-- `host_values::plain_numbers` meets its contract: each number is in its place.
use mathlib.Core.List.{[], ◌∷◌}
use Rattle.host_answers.proofs.Telling.{read_held, held_read}
use borrow.Author.Rules.{rules}
use Rattle.host_values.proofs.plain_numbers.Goals as goal

pub returns : goal.returns
returns c i =
    let a = c.args in
    let r = a.rectangle in
    held_read a.kind c.held.ensures i
    ∷ read_held r.top_left.x (search rules) i
    ∷ read_held r.top_left.y (search rules) i
    ∷ held_read r.size.width c.held-2.ensures i
    ∷ held_read r.size.height c.held-3.ensures i
    ∷ []
