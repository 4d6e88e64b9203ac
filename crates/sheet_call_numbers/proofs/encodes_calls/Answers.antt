-- `sheet_call_numbers::encodes_calls` meets its contract: the length is a multiple of a call's, and whether the calls that are left are
-- calls is whether all are.
use mathlib.Core.Path.{◌≡◌, sym, ap, ◌∙◌}
use mathlib.Core.Bool.{Bool, ◌&&◌}
use mathlib.Core.List.{List}
use Prim.Native.Nat.{ℕ, ◌+◌, ◌-◌, ◌%◌, ◌<◌}
use native.Mathlib.Omega.{arith}
use lib.IntN.{ℤ}
use borrow.Author.Tests.{eq-eqb, ne_eqb}
use lib.ListN.{length}
use Rattle.sheet_call_numbers.specs.CallNumbers.{call_length, is_call, call_numbers, are_calls, call_count, encodes_calls}
use Rattle.sheet_call_numbers.proofs.Walks.{call_part, call_part_length}
use Rattle.host_records.proofs.Walks.{all_from_here, all_from_past}
use Rattle.sheet_call_numbers.proofs.encodes_calls.Goals as goal

module _ (n : List ℤ) where
  -- the length is a multiple of a call's
  encodes : length n % call_length ≡ 0 → encodes_calls n ≡ are_calls n 0 (call_count n)
  unfolding encodes_calls
  encodes whole = rw (eq-eqb (length n % call_length) 0 whole)

  -- the calls from j on are the call at j and those behind it
  step : (j : ℕ) (t : Bool) → j < call_count n → is_call (call_numbers n j) ≡ t
      → are_calls n j (call_count n - j) ≡ (t && are_calls n (j + 1) (call_count n - (j + 1)))
  step j t here found =
      all_from_here (λ k. is_call (call_numbers n k)) (call_count n) j here
      ∙ ap (λ (u : Bool). u && are_calls n (j + 1) (call_count n - (j + 1))) found

pub returns-then-numbers-ne0 : goal.returns-then-numbers-ne0
unfolding encodes_calls
returns-then-numbers-ne0 c = rw (ne_eqb (length c.args.numbers.now % call_length) 0 c.if-numbers-ne0.true)

pub is_call-requires : goal.is_call-requires
is_call-requires c =
    let here = c.loop-j-test.true in
    call_part_length c.args.numbers.now c.loop-j.j (omega arith)

pub returns-then-not-is_call : goal.returns-then-not-is_call
returns-then-not-is_call c =
    let n = c.args.numbers.now in
    let found = ap is_call (sym (call_part n c.loop-j.j)) ∙ sym c.is_call.ensures ∙ c.if-not-is_call.true in
    sym (encodes n c.if-numbers-ne0.false ∙ sym c.loop-j.invariant ∙ step n c.loop-j.j _ c.loop-j-test.true found)

pub loop-j-preserved : goal.loop-j-preserved
loop-j-preserved c =
    let n = c.args.numbers.now in
    let found = ap is_call (sym (call_part n c.loop-j.j)) ∙ sym c.is_call.ensures ∙ c.if-not-is_call.false in
    sym (step n c.loop-j.j _ c.loop-j-test.true found) ∙ c.loop-j.invariant

pub returns : goal.returns
returns c =
    let n = c.args.numbers.now in
    sym (encodes n c.if-numbers-ne0.false ∙ sym c.loop-j.invariant ∙ all_from_past (λ k. is_call (call_numbers n k)) (call_count n) c.loop-j.j (omega arith))
