-- `sheet_layers::test_rules` meets its contract: the rows of the layers from the place reached on are at hand; each step takes one more in,
-- or shows that the whole breaks a rule. At the end their order decides.
use mathlib.Core.Path.{◌≡◌, refl, sym, subst, ◌∙◌}
use Prim.Native.Nat.{ℕ, ◌-◌}
use lib.ListN.{length-set}
use native.Mathlib.Omega.{arith}
use Rattle.sheet_layers.proofs.LayerRules.{FoundFrom, found_none, broken_here, found_here, found_all}
use Rattle.sheet_layers.proofs.test_rules.Goals as goal

pub loop-i-init : goal.loop-i-init
loop-i-init c = (refl, found_none c.args.layers c.args.count _)

pub returns-in_err-rows-clause-kept_value : goal.returns-in_err-rows-clause-kept_value
returns-in_err-rows-clause-kept_value c =
    let some = c.loop-i-test.true in
    rw c.from_residual.ensures
    (sym (broken_here c.args.layers c.args.count (c.loop-i.i - 1) c.loop-i.i (omega arith) (omega arith) (omega arith) (sym c.in_err-rows.was ∙ c.rows.ensures)))

pub loop-i-preserved : goal.loop-i-preserved
loop-i-preserved c =
    let some = c.loop-i-test.true in
    let long = c.loop-i.invariant.0 in (
      simp length-set long,
      found_here c.args.layers c.args.count (c.loop-i.i - 1) _ (omega arith) (omega arith) (omega arith) c.loop-i.rows (omega arith)
          c.loop-i.invariant.1 _ (sym c.in_ok-rows.was ∙ c.rows.ensures),
    )

pub returns-then-not-in_order-clause-kept_value : goal.returns-then-not-in_order-clause-kept_value
returns-then-not-in_order-clause-kept_value c =
    let none : c.loop-i.i ≡ 0 = omega arith in
    sym c.if-not-in_order.true ∙ c.in_order.ensures
    ∙ found_all c.args.layers c.args.count c.loop-i.rows (subst (λ (n : ℕ). FoundFrom c.args.layers c.args.count c.loop-i.rows n) none c.loop-i.invariant.1)

pub returns-clause-kept_value : goal.returns-clause-kept_value
returns-clause-kept_value c =
    let none : c.loop-i.i ≡ 0 = omega arith in
    sym c.if-not-in_order.false ∙ c.in_order.ensures
    ∙ found_all c.args.layers c.args.count c.loop-i.rows (subst (λ (n : ℕ). FoundFrom c.args.layers c.args.count c.loop-i.rows n) none c.loop-i.invariant.1)
