-- `sheet_calls::run_calls` meets its contract: the checks made are those of the answer, in order. Passed, the calls are made from the
-- sheet just opened, and demand 3 says what they leave; a refusal leaves what was lent.
use mathlib.Core.Path.{◌≡◌, sym, ap₂, ◌∙◌}
use Prim.Native.Nat.{ℕ, ◌≤◌}
use lib.ListN.{length}
use Rattle.refusal.specs.declared.Refusal.TheVariants.{BufferLength}
use Rattle.std.specs.Result.{result_and}
use Rattle.refusal.specs.Refusal.{Checked, or_else as first_of, room_check, passed}
use Rattle.refusal.proofs.Checks.{passed_first, passed_next, passed_above, and_or_else}
use Rattle.canvas_size.specs.CanvasSize.{canvas_size_check, canvas_length_check}
use Rattle.sheet_call_numbers.specs.CallNumbers.{calls_of}
use Rattle.sheet_calls.proofs.Runs.{run_from_lem, run_refused, run_not_calls, run_accepted}
use Rattle.sheet_calls.proofs.run_calls.Lts
use Rattle.sheet_calls.proofs.run_calls.Reads
use Rattle.sheet_calls.proofs.run_calls.Tie
use Rattle.sheet_calls.proofs.run_calls.Goals as goal

-- what the checks of the lent buffers find is the definition's; where they pass, the sizes are within limits and the answers have room
module _ (W H count bytes room : ℕ) {sides pixels lent answers checked : Checked} (sides_is : sides ≡ canvas_size_check W H)
    (pixels_is : pixels ≡ canvas_length_check W H bytes) (lent_is : lent ≡ result_and sides pixels) (answers_is : answers ≡ room_check count room)
    (checked_is : checked ≡ result_and lent answers) where
  checks : checked ≡ first_of (first_of (canvas_size_check W H) (canvas_length_check W H bytes)) (room_check count room)
  checks =
      checked_is ∙ and_or_else lent answers
      ∙ ap₂ first_of (lent_is ∙ and_or_else sides pixels ∙ ap₂ first_of sides_is pixels_is) answers_is

  module _ (told : checked ≡ passed) where
    sizes_passed : first_of (canvas_size_check W H) (canvas_length_check W H bytes) ≡ passed
    sizes_passed = passed_first (first_of (canvas_size_check W H) (canvas_length_check W H bytes)) (room_check count room) (sym checks ∙ told)

    room_passed : count ≤ room
    room_passed =
        passed_above room count BufferLength
        (passed_next (first_of (canvas_size_check W H) (canvas_length_check W H bytes)) (room_check count room) (sym checks ∙ told))

-- 6, 8 or 13
pub returns-in-Err-clause-answer_value : goal.returns-in-Err-clause-answer_value
returns-in-Err-clause-answer_value c =
    let a = c.args in
    let found = checks a.width a.height _ _ _ c.check.ensures c.check_length.ensures c.and-lent.ensures c.check_room.ensures c.and.ensures in
    sym (run_refused a.width a.height a.calls.now (length a.canvas.now) (length a.answers.now) _ (sym found ∙ c.in-Err.is))

-- no list of calls
pub returns-then-not-encodes_calls-clause-answer_value : goal.returns-then-not-encodes_calls-clause-answer_value
returns-then-not-encodes_calls-clause-answer_value c =
    let a = c.args in
    let found = checks a.width a.height _ _ _ c.check.ensures c.check_length.ensures c.and-lent.ensures c.check_room.ensures c.and.ensures in
    let none = sym c.encodes_calls.ensures ∙ c.if-not-encodes_calls.true in
    sym (run_not_calls a.width a.height a.calls.now (length a.canvas.now) (length a.answers.now) (sym found ∙ c.in_default.is) none)

pub returns-clause-answer_value : goal.returns-clause-answer_value
returns-clause-answer_value c =
    let a = c.args in
    let found = checks a.width a.height _ _ _ c.check.ensures c.check_length.ensures c.and-lent.ensures c.check_room.ensures c.and.ensures in
    let calls = sym c.encodes_calls.ensures ∙ c.if-not-encodes_calls.false in
    sym (run_accepted a.width a.height a.calls.now (length a.canvas.now) (length a.answers.now) (sym found ∙ c.in_default.is) calls)

pub returns-clause-run_leaves : goal.returns-clause-run_leaves
returns-clause-run_leaves c =
    let a = c.args in
    let sizes =
    sizes_passed a.width a.height _ _ _ c.check.ensures c.check_length.ensures c.and-lent.ensures c.check_room.ensures c.and.ensures c.in_default.is in
    run_from_lem a.width a.height a.canvas.now a.answers.now (calls_of a.background.now a.calls.now)
    (passed_first (canvas_size_check a.width a.height) (canvas_length_check a.width a.height (length a.canvas.now)) sizes)
    (passed_next (canvas_size_check a.width a.height) (canvas_length_check a.width a.height (length a.canvas.now)) sizes)
    c.open-opened.result.sheet c.open-opened.ensures.sheet_value
    c.make_calls-made.ensures.answers_after c.make_calls-made.ensures.value c.make_calls-made.ensures.canvas_after
