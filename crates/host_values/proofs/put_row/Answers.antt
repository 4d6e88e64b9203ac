-- `host_values::put_row` meets its contract: each number is put in its place.
use mathlib.Core.List.{[], ◌∷◌}
use mir.Syntax.{w32}
use mir.Val.{to_z, of_z}
use Rattle.host_answers.proofs.Telling.{read_held, tells_put}
use borrow.Author.Rules.{rules}
use Rattle.host_values.proofs.put_row.Goals as goal

pub returns : goal.returns
returns c =
    let row = c.args.row in
    tells_put row.y (row.x.start ∷ row.x.end ∷ []) _
    (to_z w32 (of_z w32 row.y) ∷ to_z w32 (of_z w32 row.x.start) ∷ to_z w32 (of_z w32 row.x.end) ∷ [])
    (λ i. read_held row.y (search rules) i ∷ read_held row.x.start (search rules) i ∷ read_held row.x.end (search rules) i ∷ [])
    _ _ c.put_numbers.ensures.value c.put_numbers.ensures.out_after
