-- `host_sheet_paint::check_paint` meets its contract: the size, the count and then the places decide whether the rules are kept;
-- where they are, what is asked of the layers gives the answer.
use Rattle.refusal.specs.Refusal.{Checked, passed}
use Rattle.std.specs.Prelude.{Err}
use Rattle.std.specs.Result.{result_ok}
use Rattle.std.proofs.lemmas.Result.{err_from_is_err_and}
use Rattle.refusal.proofs.Checks.{lacking_refused}
use mathlib.Core.Path.{◌≡◌, sym, ap, ap₂, ◌∙◌}
use mathlib.Core.Bool.{true, false}
use mathlib.Core.List.{List}
use Prim.Native.Nat.{ℕ}
use native.Mathlib.Omega.{arith}
use lib.IntN.{ℤ, pos}
use mir.Facts.{to_z-of_z}
use Rattle.geometry.specs.Limits.{max_layers}
use Rattle.signed.specs.Signed.{floor0}
use Rattle.refusal.specs.declared.Refusal.TheVariants.{SheetRule}
use Rattle.canvas_size.specs.CanvasSize.{canvas_size_check}
use Rattle.sheet_checks.proofs.Places.{broken_size}
use Rattle.sheet_checks.proofs.Answers.{paint_broken}
use Rattle.book.specs.Book.{paint as call_paint}
use Rattle.sheet.specs.declared.Sheet.{Sheet}
use Rattle.sheet.specs.Sheet.{sheet_answer}
use Rattle.host_records.specs.RecordNumbers.{number_at, within}
use Rattle.host_records.proofs.Walks.{read_back}
use Rattle.host_sheet_record.specs.SheetRecord.{count_at, sheet_of}
use Rattle.host_sheet_record.proofs.Parts.{sixteen}
use Rattle.host_sheet_rules.specs.RecordRules.{places_tested}
use Rattle.host_sheet_paint.specs.RecordPaint.{next_of, asked_check}
use Rattle.host_sheet_paint.proofs.Rules.{rules_kept, broken_by_count, count_few, rules_by_places, count_kept}
use Rattle.host_sheet_paint.proofs.Answers.{tested_broken, tested_kept, answer_by_asked}
use Rattle.host_sheet_paint.proofs.check_paint.Lts
use Rattle.host_sheet_paint.proofs.check_paint.Reads
use Rattle.host_sheet_paint.proofs.check_paint.Tie
use Rattle.host_sheet_paint.proofs.check_paint.Goals as goal

-- the facts known at these places
abbrev Start : Type 0
Start = Lts.Start Tie.the-claims Reads.Pre Reads.Post Tie.handed_clauses

abbrev After-check : Type 0
After-check = Lts.After-check Tie.the-claims Reads.Pre Reads.Post Tie.handed_clauses

abbrev In-Ok : Type 0
In-Ok = Lts.Past-After-enum_told Tie.the-claims Reads.Pre Reads.Post Tie.handed_clauses

abbrev After-is_within : Type 0
After-is_within = Lts.After-is_within Tie.the-claims Reads.Pre Reads.Post Tie.handed_clauses

abbrev After-next_of-y : Type 0
After-next_of-y = Lts.After-next_of Tie.the-claims Reads.Pre Reads.Post Tie.handed_clauses

abbrev After-test_places : Type 0
After-test_places = Lts.After-test_places Tie.the-claims Reads.Pre Reads.Post Tie.handed_clauses

abbrev sheet : Start → Sheet
sheet c = sheet_of c.args.numbers.now

-- the answer to a sheet that breaks a rule
refused : (c : Start) (canvas : List ℕ) → rules_kept c.args.numbers.now c.requires ≡ false
    → sheet_answer (sheet c) canvas (call_paint c.args.layer) ≡ Err SheetRule
refused c canvas broken =
    paint_broken (sheet c).width (sheet c).height (sheet c).count (sheet c).layers (sixteen c.args.numbers.now)
    c.args.layer canvas broken

-- the size is the sheet's
size_is : (c : After-check) (check : Checked) → c.check.result ≡ check
    → canvas_size_check (sheet c.before.before).width (sheet c.before.before).height ≡ check
size_is c check found =
    let size = c.size_of-size.ensures in
    sym (c.check.ensures ∙ ap₂ canvas_size_check c.size_of-size.ensures.0 c.size_of-size.ensures.1) ∙ found

size : (c : In-Ok)
    → canvas_size_check (sheet c.before.before.before).width (sheet c.before.before.before).height
    ≡ passed
size c = size_is c.before passed c.in-Ok.is

-- the count is tested as it is read
few_is : (c : After-is_within)
    → within (pos 0) (pos max_layers) (number_at c.args.numbers.now count_at)
    ≡ c.is_within.result
few_is c =
    sym (c.is_within.ensures
    ∙ ap (within (pos 0) (pos max_layers))
    (read_back c.args.numbers.now count_at c.is_within-arg-1.given))

few : (c : After-next_of-y) → within (pos 0) (pos max_layers) (number_at c.args.numbers.now count_at) ≡ true
few c = few_is c.before.before.before.before ∙ c.if-not-is_within.false

size_passed : (c : After-next_of-y) → canvas_size_check (sheet c.before.before.before.before.before.before.before.before.before).width (sheet c.before.before.before.before.before.before.before.before.before).height ≡ passed
size_passed c = size c.before.before.before.before.before.before

count_is : (c : After-next_of-y) → c.floor0-count.result ≡ floor0 (number_at c.args.numbers.now count_at)
count_is c =
    c.floor0-count.ensures
    ∙ ap (λ (z : ℤ). floor0 z) (read_back c.args.numbers.now count_at c.floor0-arg-1.given)

-- what is known of the places is that of the first of them and of the next row
tested : (c : After-test_places) → c.test_places.result
    ≡ places_tested c.args.numbers.now (floor0 (number_at c.args.numbers.now count_at))
    c.args.layer
    (next_of c.args.numbers.now c.args.layer)
tested c =
    let n = c.args.numbers.now in
    let layer = c.args.layer in
    let next = c.next_of-y.ensures in
    let row = to_z-of_z c.next_of-y.ensures.fits ∙ c.next_of-y.ensures.is in
    c.test_places.ensures ∙ (λ i. places_tested n (count_is c.before i) layer (row i))

pub returns-in_default : goal.returns-in_default
returns-in_default c =
    λ canvas long. sym (refused c.before.before.before canvas
    (broken_size (sheet c.before.before.before).width (sheet c.before.before.before).height (sheet c.before.before.before).count (sheet c.before.before.before).layers _
    (size_is c.before _ c.in_default.is)))

pub returns-then-not-is_within : goal.returns-then-not-is_within
returns-then-not-is_within c =
    λ canvas long. sym
    (refused c.before.before.before.before.before.before canvas
    (broken_by_count c.args.numbers.now c.requires (few_is c.before ∙ c.if-not-is_within.true)))

pub test_places-requires : goal.test_places-requires
test_places-requires c = record { numbers_len = c.requires; count_le_max_layers = omega (arith, count_is c, count_few c.args.numbers.now c.requires (size_passed c) (few c)) }

pub returns-in_err-asked : goal.returns-in_err-asked
returns-in_err-asked c canvas long =
    let n = c.args.numbers.now in
    let lacking = lacking_refused _ (sym c.ok_or.ensures.value ∙ c.in_err-asked.was) in
    let p = err_from_is_err_and c.from_residual.result c.from_residual.ensures.1 in
    let broken = tested_broken n (floor0 (number_at n count_at)) c.args.layer (next_of n c.args.layer)
    (sym lacking.0 ∙ tested c.before.before.before.before) in
    rw (p.1, p.2, lacking.1)
    (sym (refused c.before.before.before.before.before.before.before.before.before.before.before.before.before.before canvas (rules_by_places n c.requires (size_passed c.before.before.before.before.before) (few c.before.before.before.before.before) ∙ broken)))

pub returns : goal.returns
returns c =
    let a = c.args in
    let n = a.numbers.now in
    let found = tested_kept n (floor0 (number_at n count_at)) a.layer (next_of n a.layer) c.in_ok-asked.asked
    (sym (c.ok_or.ensures.ok_part ∙ ap result_ok c.in_ok-asked.was) ∙ tested c.before.before.before.before) in
    let rules = rules_by_places n c.requires (size_passed c.before.before.before.before.before) (few c.before.before.before.before.before) ∙ found.0 in
    let size = c.size_of-size.ensures in
    λ canvas long.
    c.check_asked.ensures
    ∙ (λ i. asked_check (c.size_of-size.ensures.0 i) (c.size_of-size.ensures.1 i) (sym long i) (count_is c.before.before.before.before.before i) a.layer (found.1 i))
    ∙ answer_by_asked n c.requires (floor0 (number_at n count_at)) a.layer canvas rules
    (count_kept n c.requires (size_passed c.before.before.before.before.before) (few c.before.before.before.before.before) rules) (count_few n c.requires (size_passed c.before.before.before.before.before) (few c.before.before.before.before.before))
