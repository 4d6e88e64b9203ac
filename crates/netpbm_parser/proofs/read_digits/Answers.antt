-- `netpbm_parser::read_digits` meets its contract. Invariant: the number so far with the digits left makes the whole, as far as it is kept.
use mathlib.Core.Path.{◌≡◌, sym, ap, ◌∙◌}
use Prim.Native.Nat.{ℕ, ◌+◌}
use lib.ListN.{length, drop}
use Rattle.netpbm_parser.specs.Parser.{parsed, digits_from}
use Rattle.netpbm_parser.specs.Capped.{capped}
use Rattle.netpbm_parser.proofs.Capped.{kept, digit_more, digits_stop, digits_end}
use native.Mathlib.Omega.{arith}
use Rattle.netpbm_parser.proofs.read_digits.Goals as goal

pub returns-then-not-is_digit-2-clause-result_value : goal.returns-then-not-is_digit-2-clause-result_value
returns-then-not-is_digit-2-clause-result_value c =
    let a = c.args in
    let i = c.loop-i.i in
    let n = c.loop-i.n in
    let stop = digits_stop a.file.now c.loop-i.i c.loop-i.n (omega arith) (sym c.is_digit-in-loop-i.ensures ∙ c.if-not-is_digit-2.true) in
    sym (c.loop-i.invariant.1 ∙ ap capped stop ∙ ap (λ (n : ℕ). parsed n (drop c.loop-i.i a.file.now)) (kept c.loop-i.n c.loop-i.invariant.0))

pub loop-i-preserved : goal.loop-i-preserved
loop-i-preserved c =
    let file = c.args.file.now in
    let more = digit_more file c.loop-i.i c.loop-i.n (omega arith) (sym c.is_digit-in-loop-i.ensures ∙ c.if-not-is_digit-2.false) in (
      omega (arith, c.with_digit-n.ensures),
      c.loop-i.invariant.1 ∙ more ∙ ap (λ (n : ℕ). capped (digits_from n (drop (c.loop-i.i + 1) file))) (sym c.with_digit-n.ensures),
    )

pub returns-clause-result_value : goal.returns-clause-result_value
returns-clause-result_value c =
    let file = c.args.file.now in
    let past = c.loop-i-test.false in
    let at_end : c.loop-i.i ≡ length file = omega arith in
    let end = digits_end file c.loop-i.i c.loop-i.n (omega arith) in
    sym (c.loop-i.invariant.1 ∙ ap capped end ∙ ap (λ (n : ℕ). parsed n (drop c.loop-i.i file)) (kept c.loop-i.n c.loop-i.invariant.0)
    ∙ ap (λ (k : ℕ). parsed c.loop-i.n (drop k file)) at_end)
