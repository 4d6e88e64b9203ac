-- `sheet_layers::test_rules` meets its contract: the rows of the layers from the place reached on are at hand; each step takes one more in,
-- or shows that the whole breaks a rule. At the end their order decides.
use mathlib.Core.Path.{◌≡◌}
use lib.ListN.{length}
use Rattle.sheet_layers.proofs.LayerRules.{FoundFrom}
use Rattle.sheet_layers.proofs.test_rules.Given as goal

abbrev pub invariant-loop-i : goal.invariant-loop-i
invariant-loop-i l = (length l.rows ≡ 16) × FoundFrom l.layers l.count l.rows l.i
