-- `sheet_layers::rows::some_owes` meets its contract: whether a layer that is left owes the row is whether one of all does.
use mathlib.Core.Path.{◌≡◌}
use lib.ListN.{take, drop}
use Rattle.sheet_layers.specs.LayerRows.{some_rows_owe}
use Rattle.sheet_layers.proofs.rows.some_owes.Given as goal

abbrev pub invariant-loop-i : goal.invariant-loop-i
invariant-loop-i l =
    some_rows_owe (drop l.i (take l.layers l.rows)) l.y ≡ some_rows_owe (take l.layers l.rows) l.y
