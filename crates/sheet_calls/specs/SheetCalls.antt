-- Demand 3 (document 00) of a function: a list of calls written as numbers, run from a sheet just opened on one canvas, with one
-- background for all removals in it (document 02, 'Five').
-- Assumes nothing.
use Rattle.std.specs.Prelude.{◌≡◌, ◌≢◌, Bool, true, false, List, [], map, ℕ, ◌<◌, ℤ, Ok, Err, Result}
use Rattle.std.proofs.lemmas.List.Edits.{sets}
use Rattle.refusal.specs.Refusal.{number, answer_number, or_else, room_check, Checked}
use Rattle.canvas_size.specs.CanvasSize.{canvas_size_check, canvas_length_check}
use Rattle.book.specs.Book.{Call, book_answers, book_after_all}
use Rattle.book.specs.Each.{Each}
use Rattle.book.specs.Demand3.{AfterCalls, OverLent}
use Rattle.drawing.specs.Drawing.{StyledFigure, drawing}
use Rattle.sheet.specs.declared.Sheet.{Sheet}
use Rattle.sheet.specs.declared.SheetOutcome.{SheetOutcome}
use Rattle.sheet.specs.Sheet.{state_of, opened_sheet, sheet_answer, sheet_after, canvas_after}
use Rattle.sheet.specs.SheetDemand3.{sheet_answers, sheet_after_all, canvas_after_all, KeepsRules}
use Rattle.host_records.specs.RecordNumbers.{number_at}
use Rattle.sheet_call_numbers.specs.CallNumbers.{call_kind_at, remove_kind, call_numbers, call_count, calls_of, encodes_calls}
use Rattle.sheet_calls.specs.declared.RunError.{RunError}
use Rattle.sheet_calls.specs.declared.RunError.TheVariants as run_error_cases

-- what a run says: it ran; the numbers are no list of calls, which has no number in the table; or it is refused by a number
pub data RunSays : Type 0 where
  all_ran : RunSays
  not_calls : RunSays
  refused_by : ℕ → RunSays

abbrev pub run_said : Result (Unit {0}) RunError → RunSays
run_said (Err (run_error_cases.Refused refusal)) = refused_by (number refusal)
run_said (Err run_error_cases.NotCalls) = not_calls
run_said (Ok done) = all_ran

-- by what the checks of what is lent find, and whether the numbers are calls
abbrev pub says_after : Checked → Bool → RunSays
says_after (Err refusal) are_calls = refused_by (number refusal)
says_after (Ok _) true = all_ran
says_after (Ok _) false = not_calls

-- 6, 8 and 13 of what is lent, before any number is read. The background is not among it: a removal gets 8 if that has another
-- length than the canvas, and where there is none nobody looks at it
abbrev pub lent_check : ℕ → ℕ → List ℤ → ℕ → ℕ → Checked
lent_check W H numbers bytes room =
    or_else (or_else (canvas_size_check W H) (canvas_length_check W H bytes)) (room_check (call_count numbers) room)

-- what a run with these numbers says, with a canvas of so many bytes and room for so many answers
unfoldable pub run_answer : ℕ → ℕ → List ℤ → ℕ → ℕ → RunSays
run_answer W H numbers bytes room = says_after (lent_check W H numbers bytes room) (encodes_calls numbers)

-- one call on a sheet with its canvas
pub record Called (call : Call StyledFigure) (s : Sheet) (canvas : List ℕ) (r : SheetOutcome) (canvas_after_lem : List ℕ) : Type 0 where
  pub answer : r.answer ≡ sheet_answer s canvas call
  pub sheet : r.sheet ≡ sheet_after s canvas call
  pub bytes : canvas_after_lem ≡ canvas_after s canvas call

-- a list of answers with those of some calls on a sheet, a list of the sheet's own (`SheetDemand3`), written from its start on
abbrev pub answers_after : List ℕ → Sheet → List ℕ → List (Call StyledFigure) → List ℕ
answers_after list s canvas calls = sets list 0 (map answer_number (sheet_answers s canvas calls))

-- demand 3 of a run: the sheet keeps its size, the answers are the book's, and the sheet and the canvas are what the book says.
-- Where demand 3 speaks of the answer to a paint call that may come next, that is the answer of `Sheet::paint` on this sheet with
-- this canvas, by its own promise
pub record ByBook (W H : ℕ) (calls : List (Call StyledFigure)) (lent list : List ℕ) (s : Sheet) (canvas told : List ℕ)
    : Type 0 where
  pub width : s.width ≡ W
  pub height : s.height ≡ H
  pub answered : told ≡ sets list 0 (map answer_number (book_answers drawing [] calls))
  pub reached : AfterCalls drawing W H lent (state_of s canvas) (book_after_all drawing [] calls)

-- what a list of calls leaves, whatever the background: each answer, the whole record and the canvas are those of the sheet's own
-- calls, made one after the other, and the record keeps the rules. And demand 3 holds where each removal has the canvas as first
-- lent for its background
pub record Ran (W H : ℕ) (calls : List (Call StyledFigure)) (lent list : List ℕ) (s : Sheet) (canvas told : List ℕ)
    : Type 0 where
  pub answered : told ≡ answers_after list (opened_sheet W H) lent calls
  pub sheet : s ≡ sheet_after_all (opened_sheet W H) lent calls
  pub painted : canvas ≡ canvas_after_all (opened_sheet W H) lent calls
  pub rules : KeepsRules s
  pub by_book : Each (OverLent drawing lent) calls → ByBook W H calls lent list s canvas told

-- So demand 3 holds of each run with the canvas as first lent for its background: `over_lent_same` (proofs/Backgrounds.antt)
abbrev pub OverLentSame : Type 0
OverLentSame =
    (lent background : List ℕ) → background ≡ lent → (numbers : List ℤ) → Each (OverLent drawing lent) (calls_of background numbers)

-- no call of a list is a removal
abbrev pub NoRemoval : List ℤ → Type 0
NoRemoval numbers = (j : ℕ) → j < call_count numbers → number_at (call_numbers numbers j) call_kind_at ≢ remove_kind

-- and of each run without removals, with any background: `over_lent_no_removal` (proofs/Backgrounds.antt)
abbrev pub OverLentNoRemoval : Type 0
OverLentNoRemoval =
    (lent background : List ℕ) (numbers : List ℤ) → encodes_calls numbers ≡ true → NoRemoval numbers
    → Each (OverLent drawing lent) (calls_of background numbers)

-- what a run leaves that did not take place: a sheet just opened, and what was lent
pub record NotRun (W H : ℕ) (lent list : List ℕ) (s : Sheet) (canvas told : List ℕ) : Type 0 where
  pub sheet : s ≡ opened_sheet W H
  pub kept_canvas : canvas ≡ lent
  pub kept_answers : told ≡ list

-- by what the run says
abbrev pub RunLeaves : RunSays → ℕ → ℕ → List (Call StyledFigure) → List ℕ → List ℕ → Sheet → List ℕ → List ℕ → Type 0
RunLeaves all_ran W H calls lent list s canvas told = Ran W H calls lent list s canvas told
RunLeaves not_calls W H calls lent list s canvas told = NotRun W H lent list s canvas told
RunLeaves (refused_by n) W H calls lent list s canvas told = NotRun W H lent list s canvas told
