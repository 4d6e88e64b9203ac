-- `host_values::put_confined_radii` meets its contract: the radii and then L and S, each put as they were made.
use mathlib.Core.Path.{ap, ◌∙◌}
use mathlib.Core.List.{[], ◌∷◌}
use lib.IntN.{pos}
use lib.ListN.{replicate}
use lib.Seq.{sets}
use Rattle.host_answers.proofs.Telling.{tells_put, held_read}
use Rattle.host_values.proofs.put_confined_radii.Goals as goal

pub returns : goal.returns
returns c =
    let radii = c.radii_numbers-radii.ensures in
    let confined = c.args.confined in
    let k = confined.radii in
    let length = held_read confined.length c.held.ensures in
    let sum = held_read confined.sum c.held-2.ensures in
    let eight = c.put_from.ensures ∙ ap (sets (replicate 10 (pos 0)) 0) c.radii_numbers-radii.ensures in
    tells_put (pos k.top_left.width)
    (pos k.top_left.height ∷ pos k.top_right.width ∷ pos k.top_right.height ∷ pos k.bottom_right.width
    ∷ pos k.bottom_right.height ∷ pos k.bottom_left.width ∷ pos k.bottom_left.height ∷ pos confined.length
    ∷ pos confined.sum ∷ [])
    _ _ (c.put_from-2.ensures ∙ (λ i. sets (eight i) 8 (length i ∷ sum i ∷ [])))
    _ _ c.put_numbers.ensures.value c.put_numbers.ensures.out_after
