-- Demand 3 for a host: the numbers after each call are those of the sheet after it, so that a list of calls on numbers is
-- a list of the sheet's own calls, of which `sheet_demand3` speaks.
-- Assumes nothing.
use mathlib.Core.Path.{◌≡◌, refl, sym, ap, ap₂, subst, subst₂, ◌∙◌}
use mathlib.Core.Bool.{Bool, true, false, false≢true}
use mathlib.Core.List.{List, [], ◌∷◌, ◌++◌, map, append-nil}
use Prim.Native.Nat.{ℕ, suc, ◌+◌}
use native.Mathlib.Omega.{arith}
use lib.IntN.{ℤ, pos}
use lib.ListN.{length, drop_of_length-le}
use lib.Seq.{sets, sets-eq}
use lib.Signed.{lt_z}
use Rattle.signed.specs.Signed.{max_i32}
use Rattle.signed.proofs.Laws.{int}
use Rattle.refusal.specs.Refusal.{answer_number, room_check, Checked, passed}
use Rattle.canvas_size.specs.CanvasSize.{canvas_size_check}
use Rattle.book.specs.Book.{book_after_all}
use Rattle.book.specs.Each.{Each}
use Rattle.book.specs.Sheet.{State, WithinSide, answer}
use Rattle.book.specs.Demand3.{AfterCalls, OverLent}
use Rattle.drawing.specs.Drawing.{StyledFigure, drawing}
use Rattle.sheet_checks.proofs.Places.{sides_pass}
use Rattle.sheet.specs.declared.Sheet.{Sheet}
use Rattle.sheet.specs.Sheet.{state_of, opened_sheet, sheet_answer, sheet_after, canvas_after}
use Rattle.sheet.specs.SheetDemand3.{sheet_answers, sheet_after_all, canvas_after_all as sheet_canvas_after_all}
use Rattle.sheet.proofs.Records.{add_takes_no_canvas}
use Rattle.sheet.proofs.SheetDemand3.{sheet_demand3}
use Rattle.host_sheet_record.specs.SheetRecord.{sheet_length, is_sheet, sheet_of}
use Rattle.host_answers.specs.HostAnswers.{no_record, held_by32, out_after, told}
use Rattle.host_sheet.specs.Sheets.{unused_places, opened_numbers, open_said, add_told, add_numbers, are_records, paint_told, paint_canvas}
use Rattle.host_sheet.specs.Sheets.{remove_told, remove_canvas}
use Rattle.host_sheet.proofs.NumbersAfter.{open_reads_back, add_reads_back, paint_reads_back, remove_reads_back}
use Rattle.host_book.specs.HostBook.{HostCall, add, paint, remove, gives_records, call_of, call_told, call_numbers, call_canvas, told_of_all}
use Rattle.host_book.specs.HostBook.{numbers_after_all, canvas_after_all, book_calls, told_by, opened, HostOverLent, HostDemand3}

-- ---- one call
module _ (numbers : List ℤ) (is : is_sheet numbers ≡ true) (canvas : List ℕ) where
  all_records : (figure style : List ℤ) → gives_records (add figure style) ≡ true → are_records numbers figure style ≡ true
  all_records figure style records = rw is records

  told_is : (call : HostCall) → gives_records call ≡ true → call_told numbers canvas call ≡ answer_number
      (sheet_answer (sheet_of numbers) canvas (call_of call))
  unfolding add_told paint_told remove_told answer
  told_is (add figure style) records = rw (all_records figure style records)
  told_is (paint i) records = rw is
  told_is (remove i background) records = rw is

  numbers_are : (call : HostCall) → gives_records call ≡ true
      → (is_sheet (call_numbers numbers canvas call) ≡ true)
      × (sheet_of (call_numbers numbers canvas call) ≡ sheet_after (sheet_of numbers) canvas (call_of call))
  unfolding answer
  numbers_are (add figure style) records = add_reads_back numbers figure style (all_records figure style records)
  numbers_are (paint i) records = paint_reads_back numbers i canvas is
  numbers_are (remove i background) records = remove_reads_back numbers i canvas background is

  canvas_is : (call : HostCall) → call_canvas numbers canvas call ≡ canvas_after (sheet_of numbers) canvas (call_of call)
  unfolding paint_canvas remove_canvas
  canvas_is (add figure style) = sym (add_takes_no_canvas (sheet_of numbers) canvas _).canvas_kept
  canvas_is (paint i) = rw is
  canvas_is (remove i background) = rw is

  -- a call whose numbers are no record changes nothing
  told_none : (call : HostCall) → gives_records call ≡ false → call_told numbers canvas call ≡ no_record
  unfolding add_told
  told_none (add figure style) none = rw (is, none)
  told_none (paint i) none = absurd (false≢true (sym none))
  told_none (remove i background) none = absurd (false≢true (sym none))

  numbers_same : (call : HostCall) → gives_records call ≡ false → call_numbers numbers canvas call ≡ numbers
  unfolding add_numbers
  numbers_same (add figure style) none = rw (is, none)
  numbers_same (paint i) none = absurd (false≢true (sym none))
  numbers_same (remove i background) none = absurd (false≢true (sym none))

  canvas_same : (call : HostCall) → gives_records call ≡ false → call_canvas numbers canvas call ≡ canvas
  canvas_same (add figure style) none = refl
  canvas_same (paint i) none = absurd (false≢true (sym none))
  canvas_same (remove i background) none = absurd (false≢true (sym none))

-- ---- a list of calls on numbers that are of a sheet s, with a canvas
record Run (calls : List HostCall) (numbers : List ℤ) (canvas : List ℕ) (s : Sheet) (bytes : List ℕ) : Type 0 where
  answered : told_of_all numbers canvas calls ≡ told_by calls (sheet_answers s bytes (book_calls calls))
  is_sheet_lem : is_sheet (numbers_after_all numbers canvas calls) ≡ true
  sheet : sheet_of (numbers_after_all numbers canvas calls) ≡ sheet_after_all s bytes (book_calls calls)
  painted : canvas_after_all numbers canvas calls ≡ sheet_canvas_after_all s bytes (book_calls calls)

run : (calls : List HostCall) (numbers : List ℤ) (canvas : List ℕ) (s : Sheet) (bytes : List ℕ) → is_sheet numbers ≡ true
    → sheet_of numbers ≡ s → canvas ≡ bytes → Run calls numbers canvas s bytes
unfolding told_of_all numbers_after_all canvas_after_all sheet_answers sheet_after_all sheet_canvas_after_all book_calls told_by
run [] numbers canvas s bytes is same kept = record { answered = refl; is_sheet_lem = is; sheet = same; painted = kept }
run (call ∷ calls) numbers canvas s bytes is same kept =
    by (run calls (call_numbers numbers canvas call) (call_canvas numbers canvas call)) (gives_records call) refl
  where
    by : ((t : Sheet) (c : List ℕ) → is_sheet (call_numbers numbers canvas call) ≡ true
        → sheet_of (call_numbers numbers canvas call) ≡ t → call_canvas numbers canvas call ≡ c
        → Run calls (call_numbers numbers canvas call) (call_canvas numbers canvas call) t c)
        → (t : Bool) → gives_records call ≡ t → Run (call ∷ calls) numbers canvas s bytes
    by go true records =
        let are = numbers_are numbers is canvas call records in
        let rest =
        go (sheet_after s bytes (call_of call)) (canvas_after s bytes (call_of call)) are.0
        (are.1 ∙ ap₂ (λ (t : Sheet) (c : List ℕ). sheet_after t c (call_of call)) same kept)
        (canvas_is numbers is canvas call ∙ ap₂ (λ (t : Sheet) (c : List ℕ). canvas_after t c (call_of call)) same kept) in
        let told =
        told_is numbers is canvas call records
        ∙ ap₂ (λ (t : Sheet) (c : List ℕ). answer_number (sheet_answer t c (call_of call))) same kept in
        record {
          answered = rw records (ap₂ (λ (n : ℕ) (l : List ℕ). n ∷ l) told rest.answered);
          is_sheet_lem = rest.is_sheet_lem;
          sheet = rw records rest.sheet;
          painted = rw records rest.painted;
        }
    by go false none =
        let unchanged = numbers_same numbers is canvas call none in
        let rest =
        go s bytes (ap (λ (m : List ℤ). is_sheet m) unchanged ∙ is) (ap (λ (m : List ℤ). sheet_of m) unchanged ∙ same)
        (canvas_same numbers is canvas call none ∙ kept) in
        record {
          answered = rw none (ap₂ (λ (n : ℕ) (l : List ℕ). n ∷ l) (told_none numbers is canvas call none) rest.answered);
          is_sheet_lem = rest.is_sheet_lem;
          sheet = rw none rest.sheet;
          painted = rw none rest.painted;
        }

-- ---- what is asked of the host's removals is asked of the book's
over_lent : (lent : List ℕ) (calls : List HostCall) → Each (HostOverLent lent) calls → Each (OverLent drawing lent) (book_calls calls)
unfolding book_calls
over_lent lent [] each = each
over_lent lent (call ∷ calls) (this, rest) = by (over_lent lent calls rest) (gives_records call) refl
  where
    by : Each (OverLent drawing lent) (book_calls calls) → (t : Bool) → gives_records call ≡ t
        → Each (OverLent drawing lent) (book_calls (call ∷ calls))
    by later true records = rw records (this, later)
    by later false none = rw none later

-- ---- opening
module _ (W H : ℕ) (width : WithinSide drawing W) (height : WithinSide drawing H) (out : List ℤ) (long : length out ≡ sheet_length) where
  size_passed : canvas_size_check W H ≡ passed
  size_passed = sides_pass W H width height

  room : room_check sheet_length (length out) ≡ passed
  room = rw long

  open_done : told (open_said W H) (length out) ≡ 0
  unfolding told unused_places
  open_done = rw (size_passed, room)

  held : map held_by32 (opened_numbers W H) ≡ opened_numbers W H
  unfolding held_by32 unused_places
  held =
      let w : lt_z (pos W) (pos (suc max_i32)) ≡ true = let most = width.1 in omega (arith, int) in
      let h : lt_z (pos H) (pos (suc max_i32)) ≡ true = let most = height.1 in omega (arith, int) in
      rw (w, h)

  many : length (opened_numbers W H) ≡ sheet_length
  unfolding unused_places
  many = refl

  opened_is : opened W H out ≡ opened_numbers W H
  unfolding out_after unused_places
  opened_is =
      rw (size_passed, room)
      (ap (λ (l : List ℤ). sets out 0 l) held
      ∙ sets-eq (opened_numbers W H) out 0 (omega (arith, many))
      ∙ ap (λ (l : List ℤ). opened_numbers W H ++ l) (drop_of_length-le out {i = 0 + length (opened_numbers W H)} (omega (arith, many)))
      ∙ append-nil (opened_numbers W H))

pub host_demand3 : HostDemand3
host_demand3 W H width height out long lent size calls each =
    let first = opened_is W H width height out long in
    let just_opened = open_reads_back W H in
    let demand = sheet_demand3 W H width height lent size (book_calls calls) (over_lent lent calls each) in
    let all =
    run calls (opened W H out) lent (opened_sheet W H) lent (ap (λ (m : List ℤ). is_sheet m) first ∙ just_opened.0)
    (ap (λ (m : List ℤ). sheet_of m) first ∙ just_opened.1) refl in
    record {
      open_told = open_done W H width height out long;
      answered = all.answered ∙ ap (λ (l : List Checked). told_by calls l) demand.answered;
      reached = subst (λ (t : State StyledFigure). AfterCalls drawing W H lent t (book_after_all drawing [] (book_calls calls)))
          (sym (ap₂ state_of all.sheet all.painted)) demand.reached;
      next_told = λ call records.
          told_is (numbers_after_all (opened W H out) lent calls) all.is_sheet_lem
          (canvas_after_all (opened W H out) lent calls) call records
          ∙ ap answer_number
          (subst₂ (λ (s : Sheet) (c : List ℕ). sheet_answer s c (call_of call) ≡ answer drawing W H (state_of s c) (call_of call))
          (sym all.sheet) (sym all.painted) (demand.next_answer (call_of call)));
    }
