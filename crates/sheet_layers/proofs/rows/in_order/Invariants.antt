-- `sheet_layers::rows::in_order` meets its contract: whether a layer that is left is overtaken is whether one of all is.
use mathlib.Core.Path.{◌≡◌}
use lib.ListN.{take, drop}
use Rattle.sheet_layers.specs.LayerRows.{rows_in_order}
use Rattle.sheet_layers.proofs.rows.in_order.Given as goal

abbrev pub invariant-loop-i : goal.invariant-loop-i
invariant-loop-i l = rows_in_order (drop l.i (take l.count l.rows)) ≡ rows_in_order (take l.count l.rows)
