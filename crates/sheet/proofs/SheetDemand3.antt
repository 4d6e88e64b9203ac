-- Demand 3 of a sheet record. A list of calls makes of a record and a canvas what `book`'s definitions make of the record's
-- layers and the canvas, call by call, and the record keeps its size and its places. So `book`'s theorem, and its law on
-- the rules, speak of the record.
-- Assumes nothing.
use Rattle.refusal.specs.Refusal.{Checked}
use mathlib.Core.Path.{◌≡◌, refl, sym, ap, ap₂, subst, subst₂, ◌∙◌}
use mathlib.Core.List.{List, [], ◌∷◌}
use Prim.Native.Nat.{ℕ}
use lib.ListN.{length}
use Rattle.book.specs.Book.{Call, book_after_all}
use Rattle.book.specs.Sheet.{State, Rules, answer, answers, after_all}
use Rattle.book.specs.Demand3.{AfterCalls}
use Rattle.book.proofs.Demand3.{demand3}
use Rattle.book.proofs.RulesKept.{rules_kept_by_all}
use Rattle.drawing.specs.Drawing.{StyledFigure, drawing}
use Rattle.sheet_checks.proofs.Places.{sides_pass}
use Rattle.sheet.specs.declared.Sheet.{Sheet}
use Rattle.sheet.specs.Sheet.{state_of, opened_sheet, sheet_answer, sheet_after, canvas_after}
use Rattle.sheet.specs.SheetDemand3.{sheet_answers, sheet_after_all, canvas_after_all, sheet_reached, canvas_reached}
use Rattle.sheet.specs.SheetDemand3.{SheetDemand3, SheetRulesKept}
use Rattle.sheet.proofs.Records.{state_after, same_frame_after}

-- ---- a list of calls on any record, by `book`'s definitions
pub record CallsMade (s : Sheet) (canvas : List ℕ) (calls : List (Call StyledFigure)) : Type 0 where
  pub answered : sheet_answers s canvas calls ≡ answers drawing s.width s.height (state_of s canvas) calls
  pub reached : state_of (sheet_after_all s canvas calls) (canvas_after_all s canvas calls)
      ≡ after_all drawing s.width s.height (state_of s canvas) calls
  pub width : (sheet_after_all s canvas calls).width ≡ s.width
  pub height : (sheet_after_all s canvas calls).height ≡ s.height

pub calls_made : (calls : List (Call StyledFigure)) (s : Sheet) → length s.layers ≡ 16 → (canvas : List ℕ)
    → CallsMade s canvas calls
unfolding sheet_answers sheet_after_all canvas_after_all answers after_all
calls_made [] s sixteen canvas = record { answered = refl; reached = refl; width = refl; height = refl }
calls_made (call ∷ calls) s sixteen canvas =
    let next : Sheet = sheet_after s canvas call in
    let painted : List ℕ = canvas_after s canvas call in
    let frame = same_frame_after s sixteen canvas call in
    let state = state_after s sixteen canvas call in
    let rest = calls_made calls next frame.places painted in
    record {
      answered = ap (λ (l : List Checked). sheet_answer s canvas call ∷ l)
          (rest.answered
          ∙ ap₂ (λ (w h : ℕ). answers drawing w h (state_of next painted) calls) frame.width frame.height
          ∙ ap (λ (t : State StyledFigure). answers drawing s.width s.height t calls) state);
      reached = rest.reached
          ∙ ap₂ (λ (w h : ℕ). after_all drawing w h (state_of next painted) calls) frame.width frame.height
          ∙ ap (λ (t : State StyledFigure). after_all drawing s.width s.height t calls) state;
      width = rest.width ∙ frame.width;
      height = rest.height ∙ frame.height;
    }

-- ---- from a sheet just opened
pub sheet_demand3 : SheetDemand3
sheet_demand3 W H width height lent size calls over =
    let demand = demand3 drawing W H width height lent size calls over in
    let made = calls_made calls (opened_sheet W H) refl lent in
    let state : State StyledFigure = state_of (sheet_reached W H lent calls) (canvas_reached W H lent calls) in
    record {
      open_accepted = sides_pass W H width height;
      answered = made.answered ∙ demand.answered;
      width = made.width;
      height = made.height;
      reached = subst (λ (t : State StyledFigure). AfterCalls drawing W H lent t (book_after_all drawing [] calls))
          (sym made.reached) demand.reached;
      next_answer = λ call. ap₂ (λ (w h : ℕ). answer drawing w h state call) made.width made.height;
    }

-- ---- from any record that keeps the rules
pub sheet_rules_kept : SheetRulesKept
sheet_rules_kept s sixteen rules canvas calls =
    let made = calls_made calls s sixteen canvas in
    let after : Sheet = sheet_after_all s canvas calls in
    subst (λ (t : State StyledFigure). Rules drawing after.width after.height t.layers) (sym made.reached)
    (subst₂ (λ (w h : ℕ). Rules drawing w h (after_all drawing s.width s.height (state_of s canvas) calls).layers)
    (sym made.width) (sym made.height)
    (rules_kept_by_all drawing s.width s.height (state_of s canvas) rules calls))
