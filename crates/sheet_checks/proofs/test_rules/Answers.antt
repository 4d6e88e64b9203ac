-- `sheet_checks::test_rules` meets its contract: the size, the count and then the layers decide whether the rules are kept.
use mathlib.Core.Path.{sym, ◌∙◌}
use native.Mathlib.Omega.{arith}
use Rattle.sheet_checks.proofs.Places.{broken_size, broken_count, kept_by_layers}
use Rattle.sheet_checks.proofs.test_rules.Goals as goal

-- a size beyond the limits
pub returns-in_default-clause-kept_value : goal.returns-in_default-clause-kept_value
returns-in_default-clause-kept_value c =
    let a = c.args in
    sym (broken_size a.size.width a.size.height a.count a.places _ (sym c.check.ensures ∙ c.in_default.is))

-- too many layers
pub returns-then-count-gt-MAX_LAYERS-clause-kept_value : goal.returns-then-count-gt-MAX_LAYERS-clause-kept_value
returns-then-count-gt-MAX_LAYERS-clause-kept_value c =
    let a = c.args in
    sym (broken_count a.size.width a.size.height a.count a.places (omega arith) c.if-count-gt-MAX_LAYERS.true)

pub returns : goal.returns
returns c =
    let a = c.args in record {
      kept_value = c.test_rules.ensures.kept_value
          ∙ kept_by_layers a.size.width a.size.height a.count a.places (omega arith) (sym c.check.ensures ∙ c.in-Ok.is) c.if-count-gt-MAX_LAYERS.false;
      rows_value = c.test_rules.ensures.rows_value;
    }
