-- `sheet_layers::rows::some_owes` meets its contract: whether a layer that is left owes the row is whether one of all does.
use mathlib.Core.Path.{sym, ap, ◌∙◌}
use mathlib.Core.Bool.{Bool, ◌||◌}
use Prim.Native.Nat.{◌+◌}
use native.Mathlib.Omega.{arith}
use borrow.Author.Rules.{rules}
use lib.ListN.{take, drop}
use mir.Syntax.{w32}
use mir.Val.{SFits, to_z, of_z}
use mir.Facts.{to_z-of_z}
use Rattle.sheet_layers.specs.LayerRows.{some_rows_owe}
use Rattle.sheet_layers.proofs.RowTests.{owe_here, owe_past}
use Rattle.sheet_layers.proofs.rows.some_owes.Goals as goal

pub returns-then-owes : goal.returns-then-owes
returns-then-owes c =
    let a = c.args in
    let here = owe_here a.rows a.layers c.loop-i.i (to_z w32 (of_z w32 a.y)) c.loop-i-test.true (omega arith) in
    let fits : SFits w32 a.y = search rules in
    let left =
    ap (λ (u : Bool). u || some_rows_owe (drop (c.loop-i.i + 1) (take a.layers a.rows)) (to_z w32 (of_z w32 a.y))) (sym c.owes.ensures ∙ c.if-owes.true) in
    sym (ap (some_rows_owe (take a.layers a.rows)) (sym (to_z-of_z fits)) ∙ sym c.loop-i.invariant ∙ here ∙ left)

pub loop-i-preserved : goal.loop-i-preserved
loop-i-preserved c =
    let a = c.args in
    let here = owe_here a.rows a.layers c.loop-i.i (to_z w32 (of_z w32 a.y)) c.loop-i-test.true (omega arith) in
    let left =
    ap (λ (u : Bool). u || some_rows_owe (drop (c.loop-i.i + 1) (take a.layers a.rows)) (to_z w32 (of_z w32 a.y))) (sym c.owes.ensures ∙ c.if-owes.false) in
    sym (here ∙ left) ∙ c.loop-i.invariant

pub returns : goal.returns
returns c =
    let a = c.args in
    let fits : SFits w32 a.y = search rules in
    sym (ap (some_rows_owe (take a.layers a.rows)) (sym (to_z-of_z fits)) ∙ sym c.loop-i.invariant
    ∙ owe_past a.rows a.layers c.loop-i.i (to_z w32 (of_z w32 a.y)) (omega arith))
