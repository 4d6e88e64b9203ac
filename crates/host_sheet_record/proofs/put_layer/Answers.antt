-- `host_sheet_record::put_layer` meets its contract: three writes one after another, none beyond the sheet's numbers.
use mathlib.Core.Path.{ap, ap₂, ◌∙◌}
use mathlib.Core.List.{List}
use Prim.Native.Nat.{◌+◌}
use lib.IntN.{ℤ}
use lib.ListN.{length-set, set}
use lib.Seq.{sets}
use mir.Syntax.{w32}
use mir.Val.{SFits}
use mir.Facts.{to_z-of_z}
use Rattle.host_sheet_record.specs.SheetRecord.{style_at, next_row_at, place_at}
use borrow.Author.Rules.{rules}
use Rattle.host_sheet_record.proofs.put_layer.Goals as goal

pub shape_of-numbers : goal.shape_of-numbers
shape_of-numbers c = simp length-set (search rules)

pub returns : goal.returns
returns c =
    let at_put_from = c.put_from in
    let a = c.args in
    let fits : SFits w32 a.row = search rules in
    let written = c.put_from-2.ensures ∙ ap (λ (l : List ℤ). sets l (place_at a.place + style_at) a.style.now)
    c.put_from.ensures in
    ap₂ (λ (l : List ℤ) (z : ℤ). set l (place_at a.place + next_row_at) z) written (to_z-of_z fits)
