-- A run of a list of calls. What the calls that are left make of the sheet, the canvas and the answers reached is what all calls
-- make of those at the start; at the end nothing is left. The laws of a list of a sheet's own calls, demand 3 among them, say the rest.
-- Assumes nothing.
use Rattle.std.specs.Prelude.{Err}
use mathlib.Core.Path.{◌≡◌, refl, sym, ap, ap₂, subst, ◌∙◌}
use mathlib.Core.Bool.{true, false}
use mathlib.Core.List.{List, [], ◌∷◌, map}
use Prim.Native.Nat.{ℕ, ◌+◌, ◌*◌, ◌-◌, ◌<◌, ◌≤◌}
use native.Mathlib.Omega.{arith}
use native.Mathlib.Numerals.{add-one}
use lib.IntN.{ℤ}
use lib.ListN.{length, take, drop, set}
use lib.Seq.{sets}
use Rattle.refusal.specs.declared.Refusal.{Refusal}
use Rattle.refusal.specs.Refusal.{number, Checked, passed}
use Rattle.canvas_size.specs.CanvasSize.{canvas_size_check, canvas_length_check}
use Rattle.canvas_size.proofs.Sides.{canvas_size_passed, canvas_length_passed}
use Rattle.refusal.specs.Refusal.{answer_number}
use Rattle.book.specs.Book.{Call, book_after_all}
use Rattle.book.specs.Sheet.{State, WithinSide}
use Rattle.book.specs.Each.{Each}
use Rattle.book.specs.Demand3.{AfterCalls, OverLent}
use Rattle.drawing.specs.Drawing.{StyledFigure, drawing}
use Rattle.sheet.specs.declared.Sheet.{Sheet}
use Rattle.sheet.specs.declared.SheetOutcome.{SheetOutcome}
use Rattle.sheet.specs.Sheet.{state_of, opened_sheet}
use Rattle.sheet.specs.SheetDemand3.{sheet_answers, sheet_after_all, canvas_after_all, KeepsRules}
use Rattle.sheet.proofs.SheetDemand3.{sheet_demand3, sheet_rules_kept}
use Rattle.host_records.specs.RecordNumbers.{list_from}
use Rattle.host_records.proofs.Walks.{list_from_here}
use Rattle.sheet_call_numbers.specs.CallNumbers.{call_length, call_of, call_numbers, calls_from, encodes_calls}
use Rattle.sheet_call_numbers.proofs.Walks.{call_part}
use Rattle.sheet_calls.specs.SheetCalls.{all_ran, not_calls, refused_by, lent_check, run_answer, Called, answers_after, ByBook, Ran}

-- ---- The loop, from a sheet s₀ with its canvas, one background and the list of answers.
module _ (background : List ℕ) (numbers : List ℤ) (count : ℕ) (s₀ : Sheet) (canvas₀ list : List ℕ) where
  abbrev all : List (Call StyledFigure)
  all = calls_from background numbers 0 count

  -- the calls that are left after j
  abbrev left : ℕ → List (Call StyledFigure)
  left j = calls_from background numbers j (count - j)

  pub record CallsLeft (j : ℕ) (s : Sheet) (canvas said_so_far : List ℕ) : Type 0 where
    pub answered : answers_after list s₀ canvas₀ all ≡ sets said_so_far j (map answer_number (sheet_answers s canvas (left j)))
    pub sheet : sheet_after_all s₀ canvas₀ all ≡ sheet_after_all s canvas (left j)
    pub bytes : canvas_after_all s₀ canvas₀ all ≡ canvas_after_all s canvas (left j)

  pub all_left : CallsLeft 0 s₀ canvas₀ list
  all_left =
      let whole : count ≡ count - 0 = omega arith in
      record {
        answered = ap (λ (n : ℕ). answers_after list s₀ canvas₀ (calls_from background numbers 0 n)) whole;
        sheet = ap (λ (n : ℕ). sheet_after_all s₀ canvas₀ (calls_from background numbers 0 n)) whole;
        bytes = ap (λ (n : ℕ). canvas_after_all s₀ canvas₀ (calls_from background numbers 0 n)) whole;
      }

  -- one call more
  module _ (j : ℕ) (s : Sheet) (canvas told : List ℕ) (l : CallsLeft j s canvas told) (here : j < count)
      (r : SheetOutcome) (canvas' : List ℕ) (called : Called (call_of background (call_numbers numbers j)) s canvas r canvas') where
    abbrev call : Call StyledFigure
    call = call_of background (call_numbers numbers j)

    calls_left : left j ≡ call ∷ left (j + 1)
    calls_left = list_from_here (λ k. call_of background (call_numbers numbers k)) count j here

    pub one_less_left : (n : ℕ) → n ≡ answer_number r.answer → CallsLeft (j + 1) r.sheet canvas' (set told j n)
    unfolding sheet_answers sheet_after_all canvas_after_all
    one_less_left n e =
        record {
          answered = l.answered
              ∙ ap (λ (k : List (Call StyledFigure)). sets told j (map answer_number (sheet_answers s canvas k))) calls_left
              ∙ rw (e, called.answer, called.sheet, called.bytes, add-one j);
          sheet = l.sheet ∙ ap (sheet_after_all s canvas) calls_left ∙ rw (called.sheet, called.bytes);
          bytes = l.bytes ∙ ap (canvas_after_all s canvas) calls_left ∙ rw (called.sheet, called.bytes);
        }

  -- none left
  pub record AllMade (s : Sheet) (canvas told : List ℕ) : Type 0 where
    pub answered : told ≡ answers_after list s₀ canvas₀ all
    pub sheet : s ≡ sheet_after_all s₀ canvas₀ all
    pub bytes : canvas ≡ canvas_after_all s₀ canvas₀ all

  pub none_left_lem : (j : ℕ) (s : Sheet) (canvas told : List ℕ) → CallsLeft j s canvas told → count ≤ j → AllMade s canvas told
  unfolding sheet_answers sheet_after_all canvas_after_all list_from
  none_left_lem j s canvas told l done =
      let none : count - j ≡ 0 = omega arith in
      record {
        answered = sym (l.answered
            ∙ ap (λ (n : ℕ). sets told j (map answer_number (sheet_answers s canvas (calls_from background numbers j n)))) none);
        sheet = sym (l.sheet ∙ ap (λ (n : ℕ). sheet_after_all s canvas (calls_from background numbers j n)) none);
        bytes = sym (l.bytes ∙ ap (λ (n : ℕ). canvas_after_all s canvas (calls_from background numbers j n)) none);
      }

-- the numbers lent for call j are its own
pub called_part : (background : List ℕ) (numbers : List ℤ) (j : ℕ) {s : Sheet} {canvas : List ℕ} {r : SheetOutcome} {canvas' : List ℕ}
    → Called (call_of background (take (call_length * j + call_length - call_length * j) (drop (call_length * j) numbers))) s canvas r canvas'
    → Called (call_of background (call_numbers numbers j)) s canvas r canvas'
called_part background numbers j {s} {canvas} {r} {canvas'} called =
    subst (λ (part : List ℤ). Called (call_of background part) s canvas r canvas') (call_part numbers j) called

-- ---- The whole run, from the sheet that opening handed back.
module _ (W H : ℕ) (lent list : List ℕ) (calls : List (Call StyledFigure)) where
  -- a sheet just opened has no layers that could break a rule
  opened_rules : WithinSide drawing W → WithinSide drawing H → KeepsRules (opened_sheet W H)
  opened_rules wide high = record { width = wide; height = high; few = omega arith; each = tt; order = tt }

  -- demand 3 of the calls, carried to what the run left
  by_book_from : WithinSide drawing W → WithinSide drawing H → length lent ≡ W * H → {s : Sheet} {canvas told : List ℕ}
      → told ≡ answers_after list (opened_sheet W H) lent calls → s ≡ sheet_after_all (opened_sheet W H) lent calls
      → canvas ≡ canvas_after_all (opened_sheet W H) lent calls
      → Each (OverLent drawing lent) calls → ByBook W H calls lent list s canvas told
  by_book_from wide high size {s} {canvas} {told} answered sheet painted over =
      let demand = sheet_demand3 W H wide high lent size calls over in
      record {
        width = ap (λ (t : Sheet). t.width) sheet ∙ demand.width;
        height = ap (λ (t : Sheet). t.height) sheet ∙ demand.height;
        answered = answered ∙ ap (λ (l : List Checked). sets list 0 (map answer_number l)) demand.answered;
        reached = subst (λ (t : State StyledFigure). AfterCalls drawing W H lent t (book_after_all drawing [] calls))
            (sym (ap₂ state_of sheet painted)) demand.reached;
      }

  pub run_from_lem : canvas_size_check W H ≡ passed → canvas_length_check W H (length lent) ≡ passed → (first : Sheet) → first ≡ opened_sheet W H
      → {s : Sheet} {canvas told : List ℕ} → told ≡ answers_after list first lent calls → s ≡ sheet_after_all first lent calls
      → canvas ≡ canvas_after_all first lent calls → Ran W H calls lent list s canvas told
  run_from_lem size long first just_opened {s} {canvas} {told} answers sheet bytes =
      let sides = canvas_size_passed W H size in
      let wide : WithinSide drawing W = (sides.width_least, sides.width_most) in
      let high : WithinSide drawing H = (sides.height_least, sides.height_most) in
      let answered : told ≡ answers_after list (opened_sheet W H) lent calls =
      answers ∙ ap (λ (t : Sheet). answers_after list t lent calls) just_opened in
      let reached : s ≡ sheet_after_all (opened_sheet W H) lent calls =
      sheet ∙ ap (λ (t : Sheet). sheet_after_all t lent calls) just_opened in
      let painted : canvas ≡ canvas_after_all (opened_sheet W H) lent calls =
      bytes ∙ ap (λ (t : Sheet). canvas_after_all t lent calls) just_opened in
      record {
        answered = answered;
        sheet = reached;
        painted = painted;
        rules = subst (λ (t : Sheet). KeepsRules t) (sym reached)
            (sheet_rules_kept (opened_sheet W H) refl (opened_rules wide high) lent calls);
        by_book = by_book_from wide high (canvas_length_passed W H (length lent) long) answered reached painted;
      }

-- ---- What the run says.
module _ (W H : ℕ) (numbers : List ℤ) (bytes room : ℕ) where
  pub run_refused : (refusal : Refusal) → lent_check W H numbers bytes room ≡ Err refusal
      → run_answer W H numbers bytes room ≡ refused_by (number refusal)
  unfolding run_answer
  run_refused refusal e = rw e

  module _ (passed : lent_check W H numbers bytes room ≡ passed) where
    pub run_not_calls : encodes_calls numbers ≡ false → run_answer W H numbers bytes room ≡ not_calls
    unfolding run_answer
    run_not_calls none = rw (passed, none)

    pub run_accepted : encodes_calls numbers ≡ true → run_answer W H numbers bytes room ≡ all_ran
    unfolding run_answer
    run_accepted calls = rw (passed, calls)
