-- `host_sheet::open` meets its contract: the numbers of a sheet without layers, with the width and height given.
use mathlib.Core.Path.{refl, sym, ap, ◌∙◌}
use mathlib.Core.List.{List, ◌∷◌}
use lib.IntN.{ℤ, pos}
use lib.ListN.{set}
use mir.Syntax.{w32}
use mir.Val.{to_z, of_z}
use Rattle.geometry.specs.Limits.{max_layers}
use Rattle.host_answers.specs.HostAnswers.{held_by32}
use Rattle.host_answers.proofs.Telling.{held_read, tells_refusal, tells_put}
use Rattle.host_sheet.specs.Sheets.{unused_places}
use Rattle.host_sheet.proofs.open.Goals as goal

pub returns-in-Err : goal.returns-in-Err
returns-in-Err c = rw (sym c.check.ensures ∙ c.in-Err.is) (tells_refusal c.args.sheet.now refl c.number.ensures)

pub returns : goal.returns
unfolding held_by32 unused_places
returns c =
    let W = c.args.width in
    let H = c.args.height in
    let w = to_z w32 (of_z w32 c.held.result) in
    let h = to_z w32 (of_z w32 c.held-2.result) in
    rw (sym c.check.ensures ∙ c.in_default.is)
    (tells_put (pos W) (pos H ∷ pos 0 ∷ unused_places max_layers) _ (set (set c.unused_places-numbers.result 0 w) 1 h)
    (ap (λ (l : List ℤ). set (set l 0 w) 1 h) c.unused_places-numbers.ensures
    ∙ (λ i. held_read W c.held.ensures i ∷ held_read H c.held-2.ensures i ∷ pos 0 ∷ unused_places max_layers))
    _ _ c.put_numbers.ensures.value c.put_numbers.ensures.out_after)
