-- Demand 3 (document 00) of a sheet record, as one statement over lists of `Sheet`'s own calls: each call gets the record
-- that the last one handed back, and each paint call and removal the one canvas. The numbers in figures, styles and calls are
-- any. The definitions are those by which `Sheet::open`, `Sheet::add`, `Sheet::paint` and `Sheet::remove` make their promises
-- (specs/Sheet.antt). That it holds is `sheet_demand3` (proofs/SheetDemand3.antt).
-- Assumes nothing.
use Rattle.refusal.specs.Refusal.{Checked, passed}
use Rattle.std.specs.Prelude.{◌≡◌, List, [], ◌∷◌, ℕ, ◌*◌, length}
use Rattle.geometry.specs.Limits.{max_layers}
use Rattle.book.specs.Book.{Call, add, book_answers, book_after_all}
use Rattle.book.specs.Sheet.{WithinSide, Rules, answer}
use Rattle.book.specs.Each.{Each}
use Rattle.book.specs.Demand3.{AfterCalls, OverLent}
use Rattle.drawing.specs.Drawing.{StyledFigure, drawing}
use Rattle.sheet_layers.specs.Layers.{layers_of}
use Rattle.sheet.specs.declared.Sheet.{Sheet}
use Rattle.sheet.specs.Sheet.{state_of, open_answer, opened_sheet, sheet_answer, sheet_after, canvas_after}

-- ---- Lists of calls. Each step is what the call's method promises. `Sheet::paint` and `Sheet::remove` are lent the canvas, and
-- promise `sheet_answer`, `sheet_after` and `canvas_after` of it, which is the step itself. `Sheet::add` is lent none, and promises
-- the first two of an empty one: by `AddTakesNoCanvas` below, that is the step with any canvas.

-- the answers to a list of calls on a record with a canvas (demand 3)
unfoldable pub sheet_answers : Sheet → List ℕ → List (Call StyledFigure) → List Checked
sheet_answers s canvas [] = []
sheet_answers s canvas (call ∷ calls) =
    sheet_answer s canvas call ∷ sheet_answers (sheet_after s canvas call) (canvas_after s canvas call) calls

-- the record after them (demand 3)
unfoldable pub sheet_after_all : Sheet → List ℕ → List (Call StyledFigure) → Sheet
sheet_after_all s canvas [] = s
sheet_after_all s canvas (call ∷ calls) = sheet_after_all (sheet_after s canvas call) (canvas_after s canvas call) calls

-- the canvas after them (demand 3)
unfoldable pub canvas_after_all : Sheet → List ℕ → List (Call StyledFigure) → List ℕ
canvas_after_all s canvas [] = canvas
canvas_after_all s canvas (call ∷ calls) = canvas_after_all (sheet_after s canvas call) (canvas_after s canvas call) calls

-- An add call takes no canvas ('Sheet'): what it answers and the record after it are with every canvas what `Sheet::add`
-- promises of an empty one, and a step of a list leaves the canvas as it was. So it is of every record, canvas and item:
-- `add_takes_no_canvas` (proofs/Records.antt).
pub record AddTakesNoCanvas (s : Sheet) (canvas : List ℕ) (item : StyledFigure) : Type 0 where
  pub same_answer : sheet_answer s [] (add item) ≡ sheet_answer s canvas (add item)
  pub same_sheet : sheet_after s [] (add item) ≡ sheet_after s canvas (add item)
  pub canvas_kept : canvas_after s canvas (add item) ≡ canvas

-- ---- Demand 3.

-- the record and the canvas that a list of calls leaves of a sheet just opened and a canvas lent (demand 3)
abbrev pub sheet_reached : ℕ → ℕ → List ℕ → List (Call StyledFigure) → Sheet
sheet_reached W H lent calls = sheet_after_all (opened_sheet W H) lent calls

abbrev pub canvas_reached : ℕ → ℕ → List ℕ → List (Call StyledFigure) → List ℕ
canvas_reached W H lent calls = canvas_after_all (opened_sheet W H) lent calls

-- Demand 3 of one list of calls on a sheet just opened: its answers are the book's, and the record and the canvas are what
-- the book says.
pub record SheetDemand3Of (W H : ℕ) (lent : List ℕ) (calls : List (Call StyledFigure)) : Type 0 where
  -- opening is accepted
  pub open_accepted : open_answer W H ≡ passed
  -- the answers
  pub answered : sheet_answers (opened_sheet W H) lent calls ≡ book_answers drawing [] calls
  -- the record keeps its size
  pub width : (sheet_reached W H lent calls).width ≡ W
  pub height : (sheet_reached W H lent calls).height ≡ H
  -- its layers and the canvas
  pub reached : AfterCalls drawing W H lent (state_of (sheet_reached W H lent calls) (canvas_reached W H lent calls))
      (book_after_all drawing [] calls)
  -- the answer to any call that may come next is that of which `reached` speaks
  pub next_answer : (call : Call StyledFigure)
      → sheet_answer (sheet_reached W H lent calls) (canvas_reached W H lent calls) call
      ≡ answer drawing W H (state_of (sheet_reached W H lent calls) (canvas_reached W H lent calls)) call

-- Demand 3: every W and H within limits, every canvas of that size with any bytes, every list of calls, each removal among them
-- with that canvas as first lent for its background.
abbrev pub SheetDemand3 : Type 0
SheetDemand3 =
    (W H : ℕ) → WithinSide drawing W → WithinSide drawing H → (lent : List ℕ) → length lent ≡ W * H
    → (calls : List (Call StyledFigure)) → Each (OverLent drawing lent) calls → SheetDemand3Of W H lent calls

-- ---- The rules of any record.

-- a record keeps the rules of a sheet, at its own width and height ('Sheet')
abbrev pub KeepsRules : Sheet → Type 0
KeepsRules s = Rules drawing s.width s.height (layers_of s.count s.layers)

-- Every list of calls on a record that keeps the rules leaves one that keeps them ('Sheet'), also on one that no calls have
-- led to, and with any canvas and any background. A record has 16 places, whatever number of layers it says. That it holds is
-- `sheet_rules_kept` (proofs/SheetDemand3.antt).
abbrev pub SheetRulesKept : Type 0
SheetRulesKept =
    (s : Sheet) → length s.layers ≡ max_layers → KeepsRules s → (canvas : List ℕ) (calls : List (Call StyledFigure))
    → KeepsRules (sheet_after_all s canvas calls)
