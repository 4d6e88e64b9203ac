-- `host_sheet_record::holds_records` meets its contract: the first three numbers, and what is asked of all used places is asked of those
-- that are left.
use mathlib.Core.Path.{◌≡◌, sym, ap, ◌∙◌}
use mathlib.Core.Bool.{Bool, true, false, ◌&&◌}
use mathlib.Core.List.{List}
use Prim.Native.Nat.{ℕ, ◌+◌, ◌-◌, min}
use borrow.Author.Rules.{rules}
use lib.IntN.{ℤ}
use lib.ListN.{take}
use Rattle.signed.specs.Signed.{floor0}
use Rattle.geometry.specs.Limits.{max_layers}
use Rattle.host_records.specs.RecordNumbers.{number_at, all_from, none_negative}
use Rattle.host_records.proofs.Walks.{read_back, all_from_here, all_from_past}
use Rattle.host_sheet_record.specs.SheetRecord.{count_at, first_place_at, place_numbers, is_layer, holds_records}
use Rattle.host_sheet_record.proofs.Parts.{place_part, place_part_length}
use native.Mathlib.Omega.{arith}
use Rattle.host_sheet_record.proofs.holds_records.Lts
use Rattle.host_sheet_record.proofs.holds_records.Reads
use Rattle.host_sheet_record.proofs.holds_records.Tie
use Rattle.host_sheet_record.proofs.holds_records.Goals as goal

-- the facts known at these places
abbrev Start : Type 0
Start = Lts.Start Tie.the-claims Reads.Pre Reads.Post goal.the-invariant-loop-j goal.the-decreases-loop-j

abbrev After-none_negative : Type 0
After-none_negative = Lts.After-none_negative Tie.the-claims Reads.Pre Reads.Post goal.the-invariant-loop-j goal.the-decreases-loop-j

abbrev After-least-used : Type 0
After-least-used = Lts.After-least Tie.the-claims Reads.Pre Reads.Post goal.the-invariant-loop-j goal.the-decreases-loop-j

abbrev After-is_layer : Type 0
After-is_layer = Lts.After-is_layer Tie.the-claims Reads.Pre Reads.Post goal.the-invariant-loop-j goal.the-decreases-loop-j

-- a place's test
abbrev test : List ℤ → ℕ → Bool
test numbers j = is_layer (place_numbers numbers j)

-- the first three numbers
sides : (c : After-none_negative) → none_negative (take first_place_at c.args.numbers.now)
    ≡ c.none_negative.result
sides c = sym c.none_negative.ensures

-- how many places are used
used_is : (c : After-least-used) → c.least-used.result ≡ min
    (floor0 (number_at c.args.numbers.now count_at)) max_layers
used_is c =
    let a = c.args in
    c.least-used.ensures
    ∙ ap (λ (n : ℕ). min n max_layers) (c.floor0.ensures ∙ ap (λ (z : ℤ). floor0 z)
    (read_back a.numbers.now count_at c.floor0-arg-1.given))

-- then it goes by the places
by_places : (c : After-least-used)
    → holds_records c.args.numbers.now ≡ all_from (test c.args.numbers.now) 0 c.least-used.result
unfolding holds_records
by_places c =
    let at_if1 = c.if-not-none_negative in
    let a = c.args in
    rw (sides c.before.before.before.before ∙ c.if-not-none_negative.false) (ap (all_from (test a.numbers.now) 0) (sym (used_is c)))

-- the places that are left, by the one that stands here
step : (c : After-is_layer) (t : Bool) → c.is_layer.result ≡ t
    → all_from (test c.args.numbers.now) c.loop-j.j
    (c.least-used.result - c.loop-j.j)
    ≡ (t && all_from (test c.args.numbers.now) (c.loop-j.j + 1)
    (c.least-used.result - (c.loop-j.j + 1)))
step c t found =
    let numbers = c.args.numbers.now in
    let j = c.loop-j.j in
    let n = c.least-used.result in
    all_from_here (test numbers) c.least-used.result c.loop-j.j c.loop-j-test.true
    ∙ ap (λ (t : Bool). t && all_from (test numbers) (c.loop-j.j + 1) (c.least-used.result - (c.loop-j.j + 1)))
    (sym (c.is_layer.ensures ∙ ap (λ (p : List ℤ). is_layer p) (place_part numbers c.loop-j.j)) ∙ found)

pub returns-then-not-none_negative : goal.returns-then-not-none_negative
unfolding holds_records
returns-then-not-none_negative c = rw (sides c.before ∙ c.if-not-none_negative.true)

pub loop-j-init : goal.loop-j-init
loop-j-init c =
    let few = used_is c in
    let whole : c.least-used.result - 0 ≡ c.least-used.result = omega arith in
    (omega arith, ap (all_from (test c.args.numbers.now) 0) whole)

pub is_layer-requires : goal.is_layer-requires
is_layer-requires c =
    let a = c.args in
    let within = c.loop-j-test.true in
    let few = c.loop-j.invariant.0 in
    place_part_length a.numbers.now c.loop-j.j (search rules) (omega arith)

pub returns-then-not-is_layer : goal.returns-then-not-is_layer
returns-then-not-is_layer c =
    let at_loop = c.loop-j in
    sym (by_places c.before.before.before.before.before ∙ sym c.loop-j.invariant.1 ∙ step c.before false
    (c.if-not-is_layer.true))

pub loop-j-preserved : goal.loop-j-preserved
loop-j-preserved c =
    let at_loop = c.loop-j in
    (c.loop-j.invariant.0, sym (step c.before true (c.if-not-is_layer.false)) ∙ c.loop-j.invariant.1)

pub returns : goal.returns
returns c =
    let a = c.args in
    sym (by_places c.before.before ∙ sym c.loop-j.invariant.1 ∙ all_from_past (test a.numbers.now)
    c.least-used.result c.loop-j.j (omega arith))
