-- `sheet_calls::make_calls` meets its contract: the calls that are left make of what is reached what all make of the start.
use mathlib.Core.Path.{refl, ◌∙◌}
use native.Mathlib.Omega.{arith}
use lib.ListN.{length-set}
use Rattle.sheet_call_numbers.proofs.Walks.{call_part_length}
use Rattle.sheet_calls.proofs.Runs.{all_left, one_less_left, called_part, none_left_lem}
use Rattle.sheet_calls.proofs.make_calls.Goals as goal

pub loop-j-init : goal.loop-j-init
loop-j-init c =
    let a = c.args in
    (refl, refl, all_left a.background.now a.numbers.now a.count a.sheet a.canvas.now a.answers.now)

pub make_call-made-requires : goal.make_call-made-requires
make_call-made-requires c =
    let here = c.loop-j-test.true in
    call_part_length c.args.numbers.now c.loop-j.j (omega arith)

pub loop-j-preserved : goal.loop-j-preserved
loop-j-preserved c =
    let a = c.args in
    let inv = c.loop-j.invariant in (
      simp length-set inv.0,
      c.make_call-made.auto.canvas ∙ inv.1,
      one_less_left a.background.now a.numbers.now a.count a.sheet a.canvas.now a.answers.now c.loop-j.j
          c.loop-j.current c.loop-j.canvas c.loop-j.answers inv.2 c.loop-j-test.true
          c.make_call-made.result _
          (called_part a.background.now a.numbers.now c.loop-j.j c.make_call-made.ensures) c.number_of.result
          c.number_of.ensures,
    )

pub returns : goal.returns
returns c =
    let a = c.args in
    let all =
    none_left_lem a.background.now a.numbers.now a.count a.sheet a.canvas.now a.answers.now c.loop-j.j
    c.loop-j.current c.loop-j.canvas c.loop-j.answers c.loop-j.invariant.2 (omega arith) in
    record { answers_after = all.answered; value = all.sheet; canvas_after = all.bytes }
