-- `sheet_checks::check_add` meets its contract: whether the rules are kept, and then whether a place is free.
use mathlib.Core.Path.{sym, ap, ◌∙◌}
use native.Mathlib.Omega.{arith}
use Rattle.std.specs.Prelude.{is_some, is_ok}
use Rattle.std.proofs.lemmas.Result.{err_from_is_err_and}
use Rattle.refusal.proofs.Checks.{lacking_refused}
use Rattle.sheet_checks.proofs.Answers.{add_broken, add_full, add_free}
use Rattle.sheet_checks.proofs.check_add.Goals as goal

-- 7
pub returns-in_err-ok_or : goal.returns-in_err-ok_or
returns-in_err-ok_or c item canvas =
    let lacking = lacking_refused _ (sym c.ok_or.ensures.value ∙ c.in_err-ok_or.was) in
    let p = err_from_is_err_and c.from_residual.result c.from_residual.ensures.1 in
    rw (p.1, p.2, lacking.1)
    (add_broken c.args.size.width c.args.size.height c.args.count c.args.places (omega arith) item canvas (sym c.test_rules.ensures.kept_value ∙ ap is_some lacking.0))

-- 9
pub returns-then-count-ge-MAX_LAYERS : goal.returns-then-count-ge-MAX_LAYERS
returns-then-count-ge-MAX_LAYERS c item canvas =
    let kept = sym c.test_rules.ensures.kept_value ∙ sym c.ok_or.ensures.variant ∙ ap is_ok c.in_ok-ok_or.was in
    add_full c.args.size.width c.args.size.height c.args.count c.args.places (omega arith) item canvas kept c.if-count-ge-MAX_LAYERS.true

pub returns : goal.returns
returns c item canvas =
    let kept = sym c.test_rules.ensures.kept_value ∙ sym c.ok_or.ensures.variant ∙ ap is_ok c.in_ok-ok_or.was in
    add_free c.args.size.width c.args.size.height c.args.count c.args.places (omega arith) item canvas kept c.if-count-ge-MAX_LAYERS.false
