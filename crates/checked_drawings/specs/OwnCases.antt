-- Drawings of our own, worked out by hand from documents 01 and 02, that reach what the checked drawings do not.
-- Assumes nothing.
use Rattle.std.specs.Prelude.{List, [], ◌∷◌, ℤ, pos, negsuc}
use Rattle.geometry.specs.declared.Point.{Point}
use Rattle.rectangle.specs.declared.Rectangle.{Rectangle}
use Rattle.scanline.specs.Points.{entries}
use Rattle.rounded_rectangle.specs.declared.RoundedRectangle.{RoundedRectangle}
use Rattle.style.specs.declared.StrokeAlignment.TheVariants.{Inside, Outside}
use Rattle.figure.specs.declared.Figure.TheVariants.{Ellipse, CrateBox, W3cBox}
use Rattle.figure.specs.Figure.{contains, row, points, offset as figure_offset}
use Rattle.figure.specs.Calls.{flag, row_values, figure_values}
use Rattle.styled.specs.Styled.{styled_row}
use Rattle.styled.specs.Calls.{styled_row_values}
use Rattle.checked_drawings.specs.Cases.{Case, case, rectangle, box, numbers, stroked}

-- a circle 3 by 3 at (−2, −2), and a box with bottom corners (4, 4) and (2, 2)
abbrev plus : Rectangle
plus = record { top_left = record { x = negsuc 1; y = negsuc 1 }; size = record { width = 3; height = 3 } }

abbrev bottom_corners : RoundedRectangle
bottom_corners =
    record {
      rectangle = rectangle 6 6;
      corners =
          record {
            top_left = record { width = 0; height = 0 };
            top_right = record { width = 0; height = 0 };
            bottom_right = record { width = 2; height = 2 };
            bottom_left = record { width = 4; height = 4 };
          };
    }

-- a box 10 by 10 whose top-right corner is as wide as it
abbrev wide_corner : RoundedRectangle
wide_corner =
    record {
      rectangle = rectangle 10 10;
      corners =
          record {
            top_left = record { width = 0; height = 0 };
            top_right = record { width = 10; height = 0 };
            bottom_right = record { width = 0; height = 0 };
            bottom_left = record { width = 0; height = 0 };
          };
    }

abbrev point : ℤ → ℤ → Point
point x y = record { x = x; y = y }

abbrev pub own_cases : List Case
own_cases =
    -- the five points of a circle 3 by 3 at (−2, −2), in order
    case (entries (points (Ellipse plus)))
    (negsuc 0 ∷ negsuc 1 ∷ negsuc 1 ∷ negsuc 0 ∷ negsuc 0 ∷ negsuc 0 ∷ pos 0 ∷ negsuc 0 ∷ negsuc 0 ∷ pos 0 ∷ [])
    -- its test at a corner and beside it
    ∷ case (flag (contains (Ellipse plus) (point (negsuc 1) (negsuc 1)))
    ∷ flag (contains (Ellipse plus) (point (negsuc 1) (negsuc 0))) ∷ [])
    (numbers (0 ∷ 1 ∷ []))
    -- where the top quadrants of case f overlap, the left one decides
    ∷ case (flag (contains (CrateBox (box 10 100 9 60)) (point (pos 6) (pos 0)))
    ∷ flag (contains (CrateBox (box 10 100 9 60)) (point (pos 3) (pos 0))) ∷ [])
    (numbers (1 ∷ 0 ∷ []))
    -- rows 0, 1 and 4 of a circle 4 by 4 with a stroke of 1 inside
    ∷ case (styled_row_values (pos 0) (styled_row (Ellipse (rectangle 4 4)) (stroked 1 Inside) (pos 0)))
    (numbers (0 ∷ 1 ∷ 3 ∷ 3 ∷ 3 ∷ 3 ∷ 3 ∷ []))
    ∷ case (styled_row_values (pos 1) (styled_row (Ellipse (rectangle 4 4)) (stroked 1 Inside) (pos 1)))
    (numbers (1 ∷ 0 ∷ 1 ∷ 1 ∷ 3 ∷ 3 ∷ 4 ∷ []))
    ∷ case (styled_row_values (pos 4) (styled_row (Ellipse (rectangle 4 4)) (stroked 1 Inside) (pos 4))) []
    -- the last row of a box 6 by 6 with unequal bottom corners
    ∷ case (row_values (pos 5) (row (CrateBox bottom_corners) (pos 5))) (numbers (5 ∷ 2 ∷ 5 ∷ []))
    -- a W3C box is confined, offset and confined again
    ∷ case (figure_values (figure_offset (W3cBox (box 10 100 9 60)) (pos 5)))
    (pos 2 ∷ negsuc 4 ∷ negsuc 4 ∷ numbers (20 ∷ 110 ∷ 10 ∷ 38 ∷ 10 ∷ 38 ∷ 10 ∷ 38 ∷ 10 ∷ 38 ∷ []))
    -- inward that shows: a corner (10, 0) of a box 10 by 10 is 7 wide after −3, its box 4, and it is confined to that
    ∷ case (figure_values (figure_offset (W3cBox wide_corner) (negsuc 2)))
    (numbers (2 ∷ 3 ∷ 3 ∷ 4 ∷ 4 ∷ 0 ∷ 0 ∷ 4 ∷ 0 ∷ 0 ∷ 0 ∷ 0 ∷ 0 ∷ []))
    -- document 02, 'Four': a W3C box 6 by 4 with square corners and a stroke of 4 outside, 14 by 12 at (−4, −4). Row 0 of that reaches from
    -- end to end
    ∷ case (figure_values (figure_offset (W3cBox (box 6 4 0 0)) (pos 4)))
    (pos 2 ∷ negsuc 3 ∷ negsuc 3 ∷ numbers (14 ∷ 12 ∷ 0 ∷ 0 ∷ 0 ∷ 0 ∷ 0 ∷ 0 ∷ 0 ∷ 0 ∷ []))
    ∷ case (styled_row_values (negsuc 3) (styled_row (W3cBox (box 6 4 0 0)) (stroked 4 Outside) (negsuc 3)))
    (negsuc 3 ∷ negsuc 3 ∷ numbers (10 ∷ 10 ∷ 10 ∷ 10 ∷ 10 ∷ []))
    -- with corners of radius 1, which become 3, it lacks a column at each end
    ∷ case (figure_values (figure_offset (W3cBox (box 6 4 1 1)) (pos 4)))
    (pos 2 ∷ negsuc 3 ∷ negsuc 3 ∷ numbers (14 ∷ 12 ∷ 3 ∷ 3 ∷ 3 ∷ 3 ∷ 3 ∷ 3 ∷ 3 ∷ 3 ∷ []))
    ∷ case (styled_row_values (negsuc 3) (styled_row (W3cBox (box 6 4 1 1)) (stroked 4 Outside) (negsuc 3)))
    (negsuc 3 ∷ negsuc 2 ∷ numbers (9 ∷ 9 ∷ 9 ∷ 9 ∷ 9 ∷ []))
    -- a crate box's become 5, and it lacks three
    ∷ case (styled_row_values (negsuc 3) (styled_row (CrateBox (box 6 4 1 1)) (stroked 4 Outside) (negsuc 3)))
    (negsuc 3 ∷ negsuc 0 ∷ numbers (7 ∷ 7 ∷ 7 ∷ 7 ∷ 7 ∷ []))
    ∷ []
