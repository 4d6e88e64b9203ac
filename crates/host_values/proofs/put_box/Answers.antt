-- `host_values::put_box` meets its contract: the numbers before the radii and then the radii, each put as they were made.
use mathlib.Core.Path.{ap, ◌∙◌}
use mathlib.Core.List.{[], ◌∷◌}
use lib.IntN.{pos}
use lib.ListN.{replicate}
use lib.Seq.{sets}
use Rattle.host_answers.proofs.Telling.{tells_put}
use Rattle.host_values.proofs.put_box.Goals as goal

pub returns : goal.returns
returns c =
    let a = c.args in
    let r = a.b.rectangle in
    let k = a.b.corners in
    let plain = c.put_from.ensures ∙ ap (sets (replicate 13 (pos 0)) 0)
    c.plain_numbers-plain.ensures in
    let radii = c.radii_numbers-radii.ensures in
    tells_put (pos a.kind)
    (r.top_left.x ∷ r.top_left.y ∷ pos r.size.width ∷ pos r.size.height ∷ pos k.top_left.width
    ∷ pos k.top_left.height ∷ pos k.top_right.width ∷ pos k.top_right.height ∷ pos k.bottom_right.width
    ∷ pos k.bottom_right.height ∷ pos k.bottom_left.width ∷ pos k.bottom_left.height ∷ [])
    _ _ (c.put_from-2.ensures ∙ (λ i. sets (plain i) 5 (c.radii_numbers-radii.ensures i)))
    _ _ c.put_numbers.ensures.value c.put_numbers.ensures.out_after
