-- `sheet_layers::rows::in_order` meets its contract: whether a layer that is left is overtaken is whether one of all is.
use mathlib.Core.Path.{sym, ap, ◌∙◌}
use mathlib.Core.Bool.{Bool, ◌&&◌}
use Prim.Native.Nat.{◌+◌}
use native.Mathlib.Omega.{arith}
use lib.ListN.{take, drop}
use Rattle.sheet_layers.specs.LayerRows.{rows_in_order}
use Rattle.sheet_layers.proofs.RowTests.{order_here, order_past}
use Rattle.sheet_layers.proofs.rows.in_order.Goals as goal

pub returns-then-not-none_overtakes : goal.returns-then-not-none_overtakes
returns-then-not-none_overtakes c =
    let a = c.args in
    let here = order_here a.rows a.count c.loop-i.i c.loop-i-test.true (omega arith) in
    let left = ap (λ (t : Bool). t && rows_in_order (drop (c.loop-i.i + 1) (take a.count a.rows))) (sym c.none_overtakes.ensures ∙ c.if-not-none_overtakes.true) in
    sym (sym c.loop-i.invariant ∙ here ∙ left)

pub loop-i-preserved : goal.loop-i-preserved
loop-i-preserved c =
    let a = c.args in
    let here = order_here a.rows a.count c.loop-i.i c.loop-i-test.true (omega arith) in
    let left = ap (λ (t : Bool). t && rows_in_order (drop (c.loop-i.i + 1) (take a.count a.rows))) (sym c.none_overtakes.ensures ∙ c.if-not-none_overtakes.false) in
    sym (here ∙ left) ∙ c.loop-i.invariant

pub returns : goal.returns
returns c =
    let a = c.args in
    sym (sym c.loop-i.invariant ∙ order_past a.rows a.count c.loop-i.i (omega arith))
