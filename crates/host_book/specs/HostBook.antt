-- Demand 3 (document 00) of a sheet that a host keeps as numbers: a list of calls, each on the numbers and the canvas that the last
-- one left, by what `wunqaber_sheet_open`, `wunqaber_sheet_add`, `wunqaber_sheet_paint` and `wunqaber_sheet_remove` promise
-- (`host_sheet`). That it holds is `host_demand3` (proofs/HostDemand3.antt).
-- Assumes nothing.
use Rattle.std.specs.Prelude.{◌≡◌, Bool, true, cond, ◌&&◌, List, [], ◌∷◌, ℕ, ◌*◌, ℤ, length, drop, get_or}
use Rattle.refusal.specs.Refusal.{answer_number, Checked, passed}
use Rattle.book.specs.Book.{Call, book_answers, book_after_all}
use Rattle.book.specs.Book as book
use Rattle.book.specs.Each.{Each}
use Rattle.book.specs.Sheet.{WithinSide, answer}
use Rattle.book.specs.Demand3.{AfterCalls, OverLent}
use Rattle.drawing.specs.Drawing.{StyledFigure, drawing}
use Rattle.sheet.specs.Sheet.{state_of}
use Rattle.host_records.specs.RecordNumbers.{is_figure, is_style}
use Rattle.host_sheet_record.specs.SheetRecord.{sheet_length, sheet_of}
use Rattle.host_answers.specs.HostAnswers.{no_record, out_after, told}
use Rattle.host_sheet.specs.Sheets.{open_said, add_of, add_told, add_numbers, paint_told, paint_numbers, paint_canvas}
use Rattle.host_sheet.specs.Sheets.{remove_told, remove_numbers, remove_canvas}

-- A call that a host makes on its sheet: a figure and a style to add, given as numbers; or the layer to paint a row of; or the layer
-- to remove, with the background (document 02, 'Five').
pub data HostCall : Type 0 where
  add : List ℤ → List ℤ → HostCall
  paint : ℕ → HostCall
  remove : ℕ → List ℕ → HostCall

-- its numbers are a figure's and a style's
abbrev pub gives_records : HostCall → Bool
gives_records (add figure style) = is_figure figure && is_style style
gives_records (paint i) = true
gives_records (remove i background) = true

-- the call of the book that it is
abbrev pub call_of : HostCall → Call StyledFigure
call_of (add figure style) = add_of figure style
call_of (paint i) = book.paint i
call_of (remove i background) = book.remove i background

-- what the host is told of a call on these numbers, and the numbers and the canvas after it
abbrev pub call_told : List ℤ → List ℕ → HostCall → ℕ
call_told numbers canvas (add figure style) = add_told numbers figure style
call_told numbers canvas (paint i) = paint_told numbers i canvas
call_told numbers canvas (remove i background) = remove_told numbers i canvas background

abbrev pub call_numbers : List ℤ → List ℕ → HostCall → List ℤ
call_numbers numbers canvas (add figure style) = add_numbers numbers figure style
call_numbers numbers canvas (paint i) = paint_numbers numbers i canvas
call_numbers numbers canvas (remove i background) = remove_numbers numbers i canvas background

abbrev pub call_canvas : List ℤ → List ℕ → HostCall → List ℕ
call_canvas numbers canvas (add figure style) = canvas
call_canvas numbers canvas (paint i) = paint_canvas numbers i canvas
call_canvas numbers canvas (remove i background) = remove_canvas numbers i canvas background

-- the same of a list of calls
unfoldable pub told_of_all : List ℤ → List ℕ → List HostCall → List ℕ
told_of_all numbers canvas [] = []
told_of_all numbers canvas (call ∷ calls) =
    call_told numbers canvas call ∷ told_of_all (call_numbers numbers canvas call) (call_canvas numbers canvas call) calls

unfoldable pub numbers_after_all : List ℤ → List ℕ → List HostCall → List ℤ
numbers_after_all numbers canvas [] = numbers
numbers_after_all numbers canvas (call ∷ calls) =
    numbers_after_all (call_numbers numbers canvas call) (call_canvas numbers canvas call) calls

unfoldable pub canvas_after_all : List ℤ → List ℕ → List HostCall → List ℕ
canvas_after_all numbers canvas [] = canvas
canvas_after_all numbers canvas (call ∷ calls) =
    canvas_after_all (call_numbers numbers canvas call) (call_canvas numbers canvas call) calls

-- ---- By the book.

-- the calls whose numbers are records, as calls of the book
unfoldable pub book_calls : List HostCall → List (Call StyledFigure)
book_calls [] = []
book_calls (call ∷ calls) = cond (gives_records call) (call_of call ∷ book_calls calls) (book_calls calls)

-- what the host is told by the book's answers to these, in turn: of a call whose numbers are no record, that they are none
unfoldable pub told_by : List HostCall → List Checked → List ℕ
told_by [] answers = []
told_by (call ∷ calls) answers =
    cond (gives_records call) (answer_number (get_or answers 0 passed) ∷ told_by calls (drop 1 answers)) (no_record ∷ told_by calls answers)

-- the numbers that `open` leaves in a list that the host lent
abbrev pub opened : ℕ → ℕ → List ℤ → List ℤ
opened W H out = out_after (open_said W H) out

-- Demand 3 of one list of calls on numbers just opened: what the host is told are the book's answers, and its numbers and its canvas
-- are what the book says.
pub record HostDemand3Of (W H : ℕ) (out : List ℤ) (lent : List ℕ) (calls : List HostCall) : Type 0 where
  -- opening is done
  pub open_told : told (open_said W H) (length out) ≡ 0
  -- the answers
  pub answered : told_of_all (opened W H out) lent calls ≡ told_by calls (book_answers drawing [] (book_calls calls))
  -- the sheet that the numbers are, and the canvas
  pub reached : AfterCalls drawing W H lent
      (state_of (sheet_of (numbers_after_all (opened W H out) lent calls)) (canvas_after_all (opened W H out) lent calls))
      (book_after_all drawing [] (book_calls calls))
  -- what the host is told of a call more is the answer of that sheet, of which `reached` speaks
  pub next_told : (call : HostCall) → gives_records call ≡ true
      → call_told (numbers_after_all (opened W H out) lent calls) (canvas_after_all (opened W H out) lent calls) call
      ≡ answer_number
      (answer drawing W H
      (state_of (sheet_of (numbers_after_all (opened W H out) lent calls)) (canvas_after_all (opened W H out) lent calls))
      (call_of call))

-- The background of a removal is the canvas as first lent; other calls have none (document 02, 'Five').
abbrev pub HostOverLent : List ℕ → HostCall → Type 0
HostOverLent lent call = OverLent drawing lent (call_of call)

-- Demand 3 for a host: every W and H within limits, every list for a sheet's numbers with anything in it, every canvas of that size
-- with any bytes, every list of calls, each removal among them with that canvas as first lent for its background.
abbrev pub HostDemand3 : Type 0
HostDemand3 =
    (W H : ℕ) → WithinSide drawing W → WithinSide drawing H → (out : List ℤ) → length out ≡ sheet_length
    → (lent : List ℕ) → length lent ≡ W * H → (calls : List HostCall) → Each (HostOverLent lent) calls
    → HostDemand3Of W H out lent calls
