-- `host_values::radii_numbers` meets its contract: each number is in its place.
use mathlib.Core.List.{[], ◌∷◌}
use Rattle.host_answers.proofs.Telling.{held_read}
use Rattle.host_values.proofs.radii_numbers.Goals as goal

pub returns : goal.returns
returns c i =
    let k = c.args.corners in
    held_read k.top_left.width c.held.ensures i
    ∷ held_read k.top_left.height c.held-2.ensures i
    ∷ held_read k.top_right.width c.held-3.ensures i
    ∷ held_read k.top_right.height c.held-4.ensures i
    ∷ held_read k.bottom_right.width c.held-5.ensures i
    ∷ held_read k.bottom_right.height c.held-6.ensures i
    ∷ held_read k.bottom_left.width c.held-7.ensures i
    ∷ held_read k.bottom_left.height c.held-8.ensures i
    ∷ []
