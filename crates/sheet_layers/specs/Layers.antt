-- Document 01, 'The records' and 'Sheet': the places for layers in a sheet record, read as the layers of which `book`'s
-- definitions speak, and the rows by which the code compares two layers.
-- Assumes nothing.
use Rattle.std.specs.Prelude.{List, [], ◌∷◌, ◌++◌, map, ℕ, pos, ◌+ℤ◌, take, None}
use Rattle.figure.specs.declared.Figure.TheVariants as figure_of_cases
use Rattle.style.specs.declared.StrokeAlignment.TheVariants as alignment_of_cases
use Rattle.book.specs.Sheet.{Layer as SheetLayer, State, Layers}
use Rattle.drawing.specs.Drawing.{StyledFigure, styled_figure, drawing}
use Rattle.drawing.specs.Rows.{stroke_rows}
use Rattle.sheet_layers.specs.declared.Layer.{Layer}
use Rattle.sheet_layers.specs.declared.rows.LayerRows.{LayerRows}

-- the layer in a place: its figure with its style, and its next row ('The records')
abbrev pub layer_of : Layer → SheetLayer StyledFigure
layer_of l = record { item = styled_figure l.figure l.style; next = l.next_row }

-- a place that nothing was put in: an ellipse 0 by 0 at (0, 0), no paint, next row 0
abbrev pub blank_layer : Layer
blank_layer =
    record {
      figure = figure_of_cases.Ellipse (record { top_left = record { x = pos 0; y = pos 0 }; size = record { width = 0; height = 0 } });
      style = record { stroke = None; fill = None; stroke_width = 0; alignment = alignment_of_cases.Inside };
      next_row = pos 0;
    }

-- The layers of a sheet that says it has so many, with its 16 places: the first of them. A place more stands behind the 16, so
-- that a sheet that says 17 or more has 17 layers, and breaks the rule on their number ('Sheet').
abbrev pub layers_of : ℕ → List Layer → Layers drawing
layers_of count places = map layer_of (take count (places ++ (blank_layer ∷ [])))

-- such a sheet with the canvas that its paint calls and removals get (demand 3)
abbrev pub state_of : ℕ → List Layer → List ℕ → State StyledFigure
state_of count places canvas = record { layers = layers_of count places; canvas = canvas }

-- ---- What the code compares.

-- the rows of a layer: the first, the next, and the one after the last ('Sheet')
unfoldable pub layer_rows : Layer → LayerRows
layer_rows l =
    record {
      first = (stroke_rows l.figure l.style).first;
      next = l.next_row;
      end = (stroke_rows l.figure l.style).first +ℤ pos (stroke_rows l.figure l.style).count;
    }
