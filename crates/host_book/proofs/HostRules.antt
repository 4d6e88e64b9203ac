-- Number 7 by a host's numbers: it is told exactly where the test of the rules fails for the sheet as which the numbers are
-- read. The test holds exactly where the rules do (`keeps_rules_iff`); numbers that are no sheet's are read as too many
-- layers, which break them.
-- Assumes nothing.
use Rattle.std.specs.Prelude.{Ok, Err}
use mathlib.Core.Path.{◌≡◌, refl, sym, ap, subst, ◌∙◌}
use mathlib.Core.Logic.{◌↔◌, inl, inr}
use mathlib.Core.Bool.{Bool, true, false}
use mathlib.Core.List.{List, []}
use Prim.Native.Nat.{ℕ}
use native.Mathlib.Omega.{arith}
use lib.IntN.{ℤ}
use Rattle.book.specs.Book.{paint, remove}
use Rattle.book.specs.Sheet.{State, Rules, keeps_rules}
use Rattle.book.proofs.Tests.{false_unless, true_false_apart}
use Rattle.book.proofs.RulesTest.{keeps_rules_iff}
use Rattle.book.proofs.LowestNumber.{add_refused_item, add_refused_broken_sheet, add_broken_sheet_only}
use Rattle.book.proofs.LowestNumber.{paint_refused_broken_sheet, paint_broken_sheet_only}
use Rattle.book.proofs.LowestNumber.{remove_refused_broken_sheet, remove_broken_sheet_only}
use Rattle.refusal.specs.declared.Refusal.{Refusal}
use Rattle.refusal.specs.declared.Refusal.TheVariants.{Side, Radius, Position, Asked, Offset, CanvasSide, SheetRule, CanvasLength, SheetFull, NoLayer, NoRowLeft, RowOwed, BufferLength, FileHeader, RasterLength}
use Rattle.refusal.specs.Refusal.{number, answer_number, refuse_if, or_else, above, beyond, Checked, passed}
use Rattle.geometry.specs.declared.Point.{Point}
use Rattle.geometry.specs.declared.Size.{Size}
use Rattle.geometry.specs.Limits.{max_side, max_position, max_radius, max_stroke_width}
use Rattle.geometry.specs.Checks.{size_check, position_check}
use Rattle.corner_radii.specs.declared.CornerRadii.{CornerRadii}
use Rattle.corner_radii.specs.CornerRadii.{radius_check, radii_check}
use Rattle.figure.specs.declared.Figure.{Figure}
use Rattle.figure.specs.declared.Figure.TheVariants.{Ellipse, CrateBox, W3cBox}
use Rattle.figure.specs.Figure.{own_rectangle}
use Rattle.figure.specs.Calls.{sides_check, corners_check, place_check, figure_check}
use Rattle.style.specs.declared.Style.{Style}
use Rattle.style.specs.Style.{style_check}
use Rattle.drawing.specs.Drawing.{StyledFigure, styled_figure, styled_check, drawing}
use Rattle.sheet_layers.specs.Layers.{layers_of}
use Rattle.sheet_checks.proofs.Places.{kept_few}
use Rattle.sheet.specs.declared.Sheet.{Sheet}
use Rattle.sheet.specs.Sheet.{state_of, sheet_answer}
use Rattle.host_records.specs.RecordNumbers.{figure_of, style_of}
use Rattle.host_sheet_record.specs.SheetRecord.{holds_records, sheet_of}
use Rattle.host_sheet_record.proofs.Parts.{sixteen, records_of_few, count_of_records}
use Rattle.host_sheet.specs.Sheets.{add_of, add_told, paint_told, remove_told}
use Rattle.host_book.specs.HostRules.{RulesHold, NoSheetOrBroken, PaintToldSeven, RemoveToldSeven, AddToldSeven}

-- ---- the sheet as which the numbers are read: its rules are those that the numbers say, if they are a sheet's
module _ (numbers : List ℤ) where
  abbrev s : Sheet
  s = sheet_of numbers

  abbrev RulesRead : Type 0
  RulesRead = Rules drawing s.width s.height (layers_of s.count s.layers)

  abbrev kept : Bool
  kept = keeps_rules drawing s.width s.height (layers_of s.count s.layers)

  test_iff : (kept ≡ true) ↔ RulesRead
  test_iff = keeps_rules_iff drawing s.width s.height (layers_of s.count s.layers)

  rules_said : holds_records numbers ≡ true → RulesRead ↔ RulesHold numbers
  rules_said records =
      let by_count : ℕ → Type 0 = λ n. Rules drawing s.width s.height (layers_of n s.layers) in
      let count = count_of_records numbers records in
      (subst by_count count, subst by_count (sym count))

  kept_records : kept ≡ true → holds_records numbers ≡ true
  kept_records e = records_of_few numbers (kept_few s.width s.height s.count s.layers (sixteen numbers) e)

  -- the test fails exactly where the numbers are no sheet's, or break a rule
  fails_iff : (kept ≡ false) ↔ NoSheetOrBroken numbers
  fails_iff = (by_records (holds_records numbers) refl, fails)
    where
      by_records : (t : Bool) → holds_records numbers ≡ t → kept ≡ false → NoSheetOrBroken numbers
      by_records true records e = inr (λ rules. true_false_apart (test_iff.1 ((rules_said records).1 rules)) e)
      by_records false none e = inl none

      fails : NoSheetOrBroken numbers → kept ≡ false
      fails (inl none) = false_unless kept (λ e. true_false_apart (kept_records e) none)
      fails (inr broken) = false_unless kept (λ e. broken ((rules_said (kept_records e)).0 (test_iff.0 e)))

-- ---- an answer by its number
number_seven : (a : Checked) → answer_number a ≡ 7 → a ≡ Err SheetRule
number_seven (Ok _) e = absurd (omega arith)
number_seven (Err refusal) e = by_refusal refusal e
  where
    by_refusal : (r : Refusal) → number r ≡ 7 → ◌≡◌ {A = Checked} (Err r) (Err SheetRule)
    by_refusal SheetRule e = refl
    by_refusal Side e = absurd (omega arith)
    by_refusal Radius e = absurd (omega arith)
    by_refusal Position e = absurd (omega arith)
    by_refusal Asked e = absurd (omega arith)
    by_refusal Offset e = absurd (omega arith)
    by_refusal CanvasSide e = absurd (omega arith)
    by_refusal CanvasLength e = absurd (omega arith)
    by_refusal SheetFull e = absurd (omega arith)
    by_refusal NoLayer e = absurd (omega arith)
    by_refusal NoRowLeft e = absurd (omega arith)
    by_refusal RowOwed e = absurd (omega arith)
    by_refusal BufferLength e = absurd (omega arith)
    by_refusal FileHeader e = absurd (omega arith)
    by_refusal RasterLength e = absurd (omega arith)

-- ---- a paint call
pub paint_told_seven : PaintToldSeven
unfolding paint_told
paint_told_seven numbers is i canvas = (only, always)
  where
    state : State StyledFigure
    state = state_of (sheet_of numbers) canvas

    told_is : paint_told numbers i canvas ≡ answer_number (sheet_answer (sheet_of numbers) canvas (paint i))
    told_is = rw is

    only : paint_told numbers i canvas ≡ 7 → NoSheetOrBroken numbers
    only seven =
        let seven_answered = number_seven (sheet_answer (sheet_of numbers) canvas (paint i)) (sym told_is ∙ seven) in
        (fails_iff numbers).0
        (paint_broken_sheet_only drawing (sheet_of numbers).width (sheet_of numbers).height state i seven_answered)

    always : NoSheetOrBroken numbers → paint_told numbers i canvas ≡ 7
    always broken =
        let fails = (fails_iff numbers).1 broken in
        told_is
        ∙ ap answer_number
        (paint_refused_broken_sheet drawing (sheet_of numbers).width (sheet_of numbers).height state i fails)

-- ---- a removal
pub remove_told_seven : RemoveToldSeven
unfolding remove_told
remove_told_seven numbers is i canvas background = (only, always)
  where
    state : State StyledFigure
    state = state_of (sheet_of numbers) canvas

    told_is : remove_told numbers i canvas background ≡ answer_number (sheet_answer (sheet_of numbers) canvas (remove i background))
    told_is = rw is

    only : remove_told numbers i canvas background ≡ 7 → NoSheetOrBroken numbers
    only seven =
        let seven_answered = number_seven (sheet_answer (sheet_of numbers) canvas (remove i background)) (sym told_is ∙ seven) in
        (fails_iff numbers).0
        (remove_broken_sheet_only drawing (sheet_of numbers).width (sheet_of numbers).height state i background seven_answered)

    always : NoSheetOrBroken numbers → remove_told numbers i canvas background ≡ 7
    always broken =
        let fails = (fails_iff numbers).1 broken in
        told_is
        ∙ ap answer_number
        (remove_refused_broken_sheet drawing (sheet_of numbers).width (sheet_of numbers).height state i background fails)

-- ---- an add call
-- a check that does not refuse by 7
abbrev NotSeven : Checked → Type 0
NotSeven check = answer_number check ≡ 7 → ⊥

not_seven_if : (t : Bool) (refusal : Refusal) → (number refusal ≡ 7 → ⊥) → NotSeven (refuse_if t refusal)
not_seven_if true refusal other e = other e
not_seven_if false refusal other e = absurd (omega arith)

not_seven_first : (a b : Checked) → NotSeven a → NotSeven b → NotSeven (or_else a b)
not_seven_first (Err refusal) b first next = first
not_seven_first (Ok _) b first next = next

not_seven_either : (t u : Bool) (refusal : Refusal) → (number refusal ≡ 7 → ⊥)
    → NotSeven (or_else (refuse_if t refusal) (refuse_if u refusal))
not_seven_either t u refusal other =
    not_seven_first (refuse_if t refusal) (refuse_if u refusal) (not_seven_if t refusal other) (not_seven_if u refusal other)

-- neither a figure nor a style is refused by 7
size_not_seven : (s : Size) → NotSeven (size_check s)
unfolding size_check
size_not_seven s = not_seven_either (above max_side s.width) (above max_side s.height) Side (λ e. omega arith)

position_not_seven : (p : Point) → NotSeven (position_check p)
unfolding position_check
position_not_seven p = not_seven_either (beyond max_position p.x) (beyond max_position p.y) Position (λ e. omega arith)

radius_not_seven : (r : Size) → NotSeven (radius_check r)
unfolding radius_check
radius_not_seven r = not_seven_either (above max_radius r.width) (above max_radius r.height) Radius (λ e. omega arith)

radii_not_seven : (r : CornerRadii) → NotSeven (radii_check r)
unfolding radii_check
radii_not_seven r =
    not_seven_first (or_else (radius_check r.top_left) (radius_check r.top_right))
    (or_else (radius_check r.bottom_right) (radius_check r.bottom_left))
    (not_seven_first (radius_check r.top_left) (radius_check r.top_right)
    (radius_not_seven r.top_left) (radius_not_seven r.top_right))
    (not_seven_first (radius_check r.bottom_right) (radius_check r.bottom_left)
    (radius_not_seven r.bottom_right) (radius_not_seven r.bottom_left))

corners_not_seven : (f : Figure) → NotSeven (corners_check f)
corners_not_seven (Ellipse r) = λ e. omega arith
corners_not_seven (CrateBox b) = radii_not_seven b.corners
corners_not_seven (W3cBox b) = radii_not_seven b.corners

styled_not_seven : (f : Figure) (style : Style) → NotSeven (styled_check f style)
unfolding styled_check style_check
styled_not_seven f style =
    not_seven_first (figure_check f) (style_check style)
    (not_seven_first (or_else (sides_check f) (corners_check f)) (place_check f)
    (not_seven_first (sides_check f) (corners_check f) (size_not_seven (own_rectangle f).size) (corners_not_seven f))
    (position_not_seven (own_rectangle f).top_left))
    (not_seven_if (above max_stroke_width style.stroke_width) Offset (λ e. omega arith))

pub add_told_seven : AddToldSeven
unfolding add_told
add_told_seven numbers figure style records = (only, always)
  where
    state : State StyledFigure
    state = state_of (sheet_of numbers) []

    item : StyledFigure
    item = styled_figure (figure_of figure) (style_of style)

    check : Checked
    check = styled_check (figure_of figure) (style_of style)

    told_is : add_told numbers figure style ≡ answer_number (sheet_answer (sheet_of numbers) [] (add_of figure style))
    told_is = rw records

    -- a figure or a style that is refused gets its own number, and that is not 7
    passes : (k : Checked) → check ≡ k → add_told numbers figure style ≡ 7 → check ≡ passed
    passes (Ok _) is seven = is
    passes (Err refusal) is seven =
        let own : sheet_answer (sheet_of numbers) [] (add_of figure style) ≡ check =
        add_refused_item drawing (sheet_of numbers).width (sheet_of numbers).height state item is
        ∙ sym is in
        absurd (styled_not_seven (figure_of figure) (style_of style) (sym (told_is ∙ ap answer_number own) ∙ seven))

    only : add_told numbers figure style ≡ 7 → (check ≡ passed) × NoSheetOrBroken numbers
    only seven =
        let passed = passes check refl seven in
        let answered_seven = number_seven (sheet_answer (sheet_of numbers) [] (add_of figure style)) (sym told_is ∙ seven) in (
          passed,
          (fails_iff numbers).0
              (add_broken_sheet_only drawing (sheet_of numbers).width (sheet_of numbers).height state item passed answered_seven),
        )

    always : (check ≡ passed) × NoSheetOrBroken numbers → add_told numbers figure style ≡ 7
    always (passed, broken) =
        let fails = (fails_iff numbers).1 broken in
        told_is
        ∙ ap answer_number
        (add_refused_broken_sheet drawing (sheet_of numbers).width (sheet_of numbers).height state item passed fails)
