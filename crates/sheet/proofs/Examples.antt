-- The examples of document 01's table for a sheet, computed from the definitions: 6 to 12, and the layer that can go on.
-- Assumes nothing.
use Rattle.std.specs.Prelude.{Some, None}
use mathlib.Core.Path.{◌≡◌, refl}
use mathlib.Core.List.{List, [], ◌∷◌}
use Prim.Native.Nat.{ℕ}
use lib.IntN.{pos}
use lib.ListN.{replicate}
use Rattle.figure.specs.declared.Figure.TheVariants.{CrateBox}
use Rattle.style.specs.declared.StrokeAlignment.TheVariants.{Center}
use Rattle.geometry.specs.Checks.{size_check, position_check}
use Rattle.rectangle.specs.Rectangle.{center, with_center, offset_side, offset}
use Rattle.scanline.specs.Columns.{first_column}
use Rattle.ellipse.specs.Ellipse.{center2x, from_center2x, threshold, inside}
use Rattle.ellipse_rows.specs.EllipsePoints.{scanline, has_rows, row_count}
use Rattle.corner_radii.specs.CornerRadii.{radius_check, radii_check}
use Rattle.figure.specs.Figure.{confined, offset_box}
use Rattle.style.specs.Style.{style_check, outside_stroke_width}
use Rattle.canvas_size.specs.CanvasSize.{canvas_size_check}
use Rattle.refusal.specs.Refusal.{answer_number}
use Rattle.book.specs.Book.{add, paint, has_row}
use Rattle.book.specs.Sheet.{answer, keeps_rules, layers_keep_rules, layer_keeps_rules, none_overtakes, overtakes, some_layer_owes, layer_owes}
use Rattle.drawing.specs.Rows.{stroke_rows}
use Rattle.drawing.specs.Drawing.{StyledFigure, styled_check}
use Rattle.sheet_layers.specs.Layers.{blank_layer}
use Rattle.sheet.specs.declared.Sheet.{Sheet}
use Rattle.sheet.specs.Sheet.{open_answer, opened_sheet, sheet_answer, added_layer}

-- 16 bytes
abbrev bytes : List ℕ
bytes = replicate 16 0

-- a sheet of 4 by 4 that says it has so many layers, all blank: ellipses 0 by 0 with stroke width 0
abbrev blanks : ℕ → Sheet
blanks count = record { width = 4; height = 4; count = count; layers = replicate 16 blank_layer }

-- a box 2 by 2 at (0, 0)
abbrev box : StyledFigure
box =
    record {
      figure = CrateBox (record {
        rectangle = record { top_left = record { x = pos 0; y = pos 0 }; size = record { width = 2; height = 2 } };
        corners = record {
          top_left = record { width = 0; height = 0 };
          top_right = record { width = 0; height = 0 };
          bottom_right = record { width = 0; height = 0 };
          bottom_left = record { width = 0; height = 0 };
        };
      });
      style = record { stroke = None; fill = Some 9; stroke_width = 0; alignment = Center };
    }

-- two equal boxes
abbrev boxes : Sheet
boxes = record { width = 4; height = 4; count = 2; layers = added_layer box ∷ added_layer box ∷ replicate 14 blank_layer }

pub table_examples : (answer_number (open_answer 0 4) ≡ 6) × (answer_number (sheet_answer (blanks 17) bytes (paint 0)) ≡ 7)
    × (answer_number (sheet_answer (opened_sheet 4 4) (replicate 15 0) (paint 0)) ≡ 8) ×
    (answer_number (sheet_answer (blanks 16) [] (add box)) ≡ 9)
    × (answer_number (sheet_answer (opened_sheet 4 4) bytes (paint 0)) ≡ 10) × (answer_number (sheet_answer (blanks 1) bytes (paint 0)) ≡ 11)
    × (answer_number (sheet_answer boxes bytes (paint 1)) ≡ 12) × (answer_number (sheet_answer boxes bytes (paint 0)) ≡ 0)
unfolding answer keeps_rules layers_keep_rules layer_keeps_rules none_overtakes overtakes some_layer_owes layer_owes has_row canvas_size_check
    styled_check stroke_rows size_check position_check center with_center offset_side offset confined offset_box style_check outside_stroke_width
    center2x from_center2x threshold inside scanline has_rows row_count first_column radius_check radii_check
table_examples = (refl, refl, refl, refl, refl, refl, refl, refl)
