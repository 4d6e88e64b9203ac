-- `sheet_layers::rows::none_overtakes` meets its contract: an earlier layer that owes nothing is overtaken by none; else whether a layer
-- that is left overtakes it is whether one of all does.
use mathlib.Core.Path.{sym, ap, ◌∙◌}
use mathlib.Core.Bool.{Bool, not, ◌&&◌}
use Prim.Native.Nat.{◌+◌}
use native.Mathlib.Omega.{arith}
use borrow.Author.Rules.{rules}
use lib.ListN.{take, drop}
use Rattle.sheet_layers.specs.LayerRows.{no_rows_overtake}
use Rattle.sheet_layers.proofs.RowTests.{RowsFit, le_held, none_owed, overtake_here, overtake_past}
use Rattle.sheet_layers.proofs.rows.none_overtakes.Goals as goal

pub returns-then-earlier : goal.returns-then-earlier
returns-then-earlier c =
    let fits : RowsFit c.args.earlier = record { first = search rules; next = search rules; end = search rules } in
    sym (none_owed c.args.earlier (drop c.args.from (take c.args.count c.args.rows)) (le_held fits.end fits.next c.if-earlier.true))

pub returns-then-is_overtaken : goal.returns-then-is_overtaken
returns-then-is_overtaken c =
    let a = c.args in
    let here = overtake_here a.rows a.count c.loop-i.i a.earlier c.loop-i-test.true (omega arith) in
    let left =
    ap (λ (t : Bool). not t && no_rows_overtake a.earlier (drop (c.loop-i.i + 1) (take a.count a.rows))) (sym c.is_overtaken.ensures ∙ c.if-is_overtaken.true) in
    sym (sym c.loop-i.invariant ∙ here ∙ left)

pub loop-i-preserved : goal.loop-i-preserved
loop-i-preserved c =
    let a = c.args in
    let here = overtake_here a.rows a.count c.loop-i.i a.earlier c.loop-i-test.true (omega arith) in
    let left =
    ap (λ (t : Bool). not t && no_rows_overtake a.earlier (drop (c.loop-i.i + 1) (take a.count a.rows))) (sym c.is_overtaken.ensures ∙ c.if-is_overtaken.false) in
    sym (here ∙ left) ∙ c.loop-i.invariant

pub returns : goal.returns
returns c =
    let a = c.args in
    sym (sym c.loop-i.invariant ∙ overtake_past a.rows a.count c.loop-i.i a.earlier (omega arith))
