-- Document 02, 'Five': the canvas after the removal of a layer, as the code makes it: rows from one up to another, overpainted by layer
-- after layer. The law `restored_by_layers` (proofs/Restored.antt) says that this gives `book`'s canvas after a removal.
-- Assumes nothing.
use Rattle.std.specs.Prelude.{cond, ◌&&◌, List, ℕ, leb, ltb, pos}
use Rattle.book.specs.Canvas.{canvas_row, canvas_of}
use Rattle.book.specs.Book.{overpainted}
use Rattle.book.specs.Sheet.{Layers, layer_painters}
use Rattle.drawing.specs.Drawing.{drawing}

-- row y of a canvas, if it is one from a first row up to another, overpainted by those of some layers that have painted it
unfoldable pub laid_over_row : ℕ → ℕ → ℕ → Layers drawing → List ℕ → ℕ → List ℕ
laid_over_row W from to layers canvas y =
    cond (leb from y && ltb y to)
    (overpainted drawing (layer_painters drawing layers (pos y)) (pos y) (canvas_row W y canvas))
    (canvas_row W y canvas)

-- all rows of the canvas
abbrev pub laid_over : ℕ → ℕ → ℕ → ℕ → Layers drawing → List ℕ → List ℕ
laid_over W H from to layers canvas = canvas_of (laid_over_row W from to layers canvas) H
