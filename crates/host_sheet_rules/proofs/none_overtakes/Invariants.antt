-- `host_sheet_rules::none_overtakes` meets its contract: whether a layer that is left overtakes is whether one of all does.
use mathlib.Core.Path.{◌≡◌}
use Prim.Native.Nat.{◌-◌}
use lib.IntN.{ℤ}
use Rattle.sheet_layers.specs.declared.rows.LayerRows.{LayerRows}
use Rattle.sheet_layers.specs.LayerRows.{no_rows_overtake}
use Rattle.host_sheet_rules.specs.RecordRules.{rows_from}
use Rattle.host_sheet_rules.proofs.none_overtakes.Given as goal

-- the earlier layer, by what it owes
abbrev pub owing : ℤ → ℤ → LayerRows
owing next end = record { first = next; next = next; end = end }

abbrev pub invariant-loop-j : goal.invariant-loop-j
invariant-loop-j l =
    no_rows_overtake (owing l.next l.end) (rows_from l.numbers l.j (l.count - l.j)) ≡ no_rows_overtake (owing l.next l.end) (rows_from l.numbers l.from (l.count - l.from))
