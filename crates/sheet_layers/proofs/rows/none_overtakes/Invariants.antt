-- `sheet_layers::rows::none_overtakes` meets its contract: an earlier layer that owes nothing is overtaken by none; else whether a layer
-- that is
-- left overtakes it is whether one of all does.
use mathlib.Core.Path.{◌≡◌}
use lib.ListN.{take, drop}
use Rattle.sheet_layers.specs.LayerRows.{no_rows_overtake}
use Rattle.sheet_layers.proofs.rows.none_overtakes.Given as goal

abbrev pub invariant-loop-i : goal.invariant-loop-i
invariant-loop-i l =
    no_rows_overtake l.earlier (drop l.i (take l.count l.rows)) ≡ no_rows_overtake l.earlier (drop l.from (take l.count l.rows))
