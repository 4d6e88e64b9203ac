-- `host_values::put_styled_row` meets its contract: each number is put in its place.
use mathlib.Core.List.{[], ◌∷◌}
use mir.Syntax.{w32}
use mir.Val.{to_z, of_z}
use Rattle.host_answers.proofs.Telling.{read_held, tells_put}
use borrow.Author.Rules.{rules}
use Rattle.host_values.proofs.put_styled_row.Goals as goal

pub returns : goal.returns
returns c =
    let row = c.args.row in
    tells_put row.y (row.stroke_left.start ∷ row.stroke_left.end ∷ row.fill.start ∷ row.fill.end ∷ row.stroke_right.start
    ∷ row.stroke_right.end ∷ []) _
    (to_z w32 (of_z w32 row.y) ∷ to_z w32 (of_z w32 row.stroke_left.start) ∷ to_z w32 (of_z w32 row.stroke_left.end) ∷ to_z w32
    (of_z w32 row.fill.start) ∷ to_z w32 (of_z w32 row.fill.end) ∷ to_z w32 (of_z w32 row.stroke_right.start) ∷ to_z w32
    (of_z w32 row.stroke_right.end) ∷ [])
    (λ i. read_held row.y (search rules) i ∷ read_held row.stroke_left.start (search rules) i ∷ read_held row.stroke_left.end
    (search rules) i ∷ read_held row.fill.start (search rules) i ∷ read_held row.fill.end (search rules) i ∷ read_held
    row.stroke_right.start (search rules) i ∷ read_held row.stroke_right.end (search rules) i ∷ [])
    _ _ c.put_numbers.ensures.value c.put_numbers.ensures.out_after
