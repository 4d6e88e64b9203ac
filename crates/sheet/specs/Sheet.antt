-- Document 01, 'Sheet', of a sheet record: what the calls answer, and the record and the canvas after them. The answer is that of
-- `book`'s definitions over the drawing of figures with their styles (specs/Sheet.antt of `book`).
-- Assumes nothing.
use Rattle.std.specs.Prelude.{List, [], ◌∷◌, ◌++◌, ℕ, ◌+◌, ◌-◌, pos, ◌+ℤ◌, set, get_or, replicate}
use Rattle.refusal.specs.Refusal.{keeping, Checked}
use Rattle.geometry.specs.Limits.{max_layers}
use Rattle.canvas_size.specs.CanvasSize.{canvas_size_check}
use Rattle.book.specs.Book.{without, Call, add, paint, remove}
use Rattle.book.specs.Sheet.{State, answer, after}
use Rattle.drawing.specs.Drawing.{StyledFigure, drawing}
use Rattle.drawing.specs.Rows.{stroke_rows}
use Rattle.sheet_layers.specs.declared.Layer.{Layer}
use Rattle.sheet_layers.specs.Layers.{blank_layer, state_of as layers_state_of}
use Rattle.sheet.specs.declared.Sheet.{Sheet}

-- a sheet record with the canvas that its paint calls and removals get: its layers are those in its first places, and 17 if it says
-- more than 16 ('The records')
abbrev pub state_of : Sheet → List ℕ → State StyledFigure
state_of s canvas = layers_state_of s.count s.layers canvas

-- ---- Opening ('Sheet'): 6, else accepted; and a sheet of that size without layers, after 6 too, when every later call refuses it.
abbrev pub open_answer : ℕ → ℕ → Checked
open_answer W H = canvas_size_check W H

abbrev pub opened_sheet : ℕ → ℕ → Sheet
opened_sheet W H = record { width = W; height = H; count = 0; layers = replicate max_layers blank_layer }

-- ---- Adding, painting and removing.

-- the answer to a call on any sheet record ('The records', the table): 1, 2, 3, 5, 7, 9 to an add call, whatever the canvas;
-- 7, 8, 10, 11, 12 to a paint call; 7, 8, 10 to a removal (document 02, 'Five')
abbrev pub sheet_answer : Sheet → List ℕ → Call StyledFigure → Checked
sheet_answer s canvas call = answer drawing s.width s.height (state_of s canvas) call

-- the record with a layer put in a place
abbrev pub with_layer : Sheet → ℕ → ℕ → Layer → Sheet
with_layer s count place l =
    record { width = s.width; height = s.height; count = count; layers = set s.layers place l }

-- a layer just added: its next row is the first of its stroke area ('Sheet')
abbrev pub added_layer : StyledFigure → Layer
added_layer item =
    record { figure = item.figure; style = item.style; next_row = (stroke_rows item.figure item.style).first }

-- a layer just painted: its next row moves down by one ('Sheet')
abbrev pub painted_layer : Layer → Layer
painted_layer l = record { figure = l.figure; style = l.style; next_row = l.next_row +ℤ pos 1 }

-- the record after an accepted call ('Sheet'): a layer more, in the first place that was unused; or the layer painted. All
-- other places stay as they were. Or a layer less: each place behind it moves down one number, and the last is left blank
-- (document 02, 'Five')
unfoldable pub carried_out_sheet : Sheet → Call StyledFigure → Sheet
carried_out_sheet s (add item) = with_layer s (s.count + 1) s.count (added_layer item)
carried_out_sheet s (paint i) = with_layer s s.count i (painted_layer (get_or s.layers i blank_layer))
carried_out_sheet s (remove i background) =
    record {
      width = s.width;
      height = s.height;
      count = s.count - 1;
      layers = without i s.layers ++ (blank_layer ∷ []);
    }

-- the record after a call: after a refused one as given ('The records', below the table)
abbrev pub sheet_after : Sheet → List ℕ → Call StyledFigure → Sheet
sheet_after s canvas call = keeping (sheet_answer s canvas call) s (carried_out_sheet s call)

-- the canvas after a call: after a refused one as lent, and after an add call too
abbrev pub canvas_after : Sheet → List ℕ → Call StyledFigure → List ℕ
canvas_after s canvas call = (after drawing s.width s.height (state_of s canvas) call).canvas
