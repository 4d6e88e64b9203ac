-- Document 01, 'Checked drawings': what the definitions give, and what the paper says, cases a to k.
-- Assumes nothing.
use Rattle.std.specs.Prelude.{cond, List, [], ◌∷◌, map, ℕ, zero, suc, ◌+◌, ℤ, pos, negsuc, ◌+ℤ◌, length, None}
use Rattle.rectangle.specs.declared.Rectangle.{Rectangle}
use Rattle.rectangle.specs.Calls.{rectangle_values}
use Rattle.ellipse.specs.Ellipse.{threshold}
use Rattle.ellipse_rows.specs.EllipsePoints.{is_run, row as ellipse_row, row_count}
use Rattle.corner_radii.specs.CornerRadii.{equal_radii}
use Rattle.rounded_rectangle.specs.declared.RoundedRectangle.{RoundedRectangle}
use Rattle.style.specs.declared.Style.{Style}
use Rattle.style.specs.declared.StrokeAlignment.{StrokeAlignment}
use Rattle.style.specs.declared.StrokeAlignment.TheVariants.{Inside, Center, Outside}
use Rattle.style.specs.Style.{styled_by_default, aligned, outside_width, inside_width}
use Rattle.figure.specs.declared.Figure.TheVariants.{Ellipse, CrateBox, W3cBox}
use Rattle.figure.specs.Figure.{row, points}
use Rattle.figure.specs.Calls.{row_values, confined_values}
use Rattle.styled.specs.Styled.{styled_bounding_box, styled_row}
use Rattle.styled.specs.Calls.{styled_row_values}

-- what is drawn, and what is said of it
pub record Case : Type 0 where
  pub drawn : List ℤ
  pub said : List ℤ

abbrev pub case : List ℤ → List ℤ → Case
case drawn said = record { drawn = drawn; said = said }

abbrev pub rectangle : ℕ → ℕ → Rectangle
rectangle w h = record { top_left = record { x = pos 0; y = pos 0 }; size = record { width = w; height = h } }

abbrev pub box : ℕ → ℕ → ℕ → ℕ → RoundedRectangle
box w h rw rh = record { rectangle = rectangle w h; corners = equal_radii (record { width = rw; height = rh }) }

-- how many of the n rows from y on an ellipse has
unfoldable pub count_rows : Rectangle → ℤ → ℕ → ℕ
count_rows e y zero = 0
count_rows e y (suc n) = cond (is_run (ellipse_row e y)) 1 0 + count_rows e (y +ℤ pos 1) n

abbrev pub numbers : List ℕ → List ℤ
numbers ns = map pos ns

abbrev rows_of : Rectangle → List ℤ
rows_of e = numbers (row_count e ∷ count_rows e e.top_left.y e.size.height ∷ [])

-- a style without paints, by its stroke width and alignment
abbrev pub stroked : ℕ → StrokeAlignment → Style
stroked width alignment = aligned (styled_by_default None None width) alignment

abbrev pub cases : List Case
cases =
    -- a
    case (numbers (map threshold (0 ∷ 1 ∷ 2 ∷ 3 ∷ 4 ∷ 5 ∷ []))) (numbers (0 ∷ 1 ∷ 3 ∷ 8 ∷ 14 ∷ 25 ∷ []))
    -- b to e: the number of rows, and how many the row of each y gives
    ∷ case (rows_of (rectangle 2 7)) (numbers (7 ∷ 7 ∷ []))
    ∷ case (rows_of (rectangle 2 8)) (numbers (0 ∷ 0 ∷ []))
    ∷ case (rows_of (rectangle 4 31)) (numbers (31 ∷ 31 ∷ []))
    ∷ case (rows_of (rectangle 4 32)) (numbers (0 ∷ 0 ∷ []))
    -- f: the radii and the fraction (document 02, 'Two'), row 0 (its y, start and end), the number of points
    ∷ case (confined_values (CrateBox (box 10 100 9 60))) (numbers (7 ∷ 50 ∷ 7 ∷ 50 ∷ 7 ∷ 50 ∷ 7 ∷ 50 ∷ 100 ∷ 120 ∷ []))
    ∷ case (row_values (pos 0) (row (CrateBox (box 10 100 9 60)) (pos 0))) (numbers (0 ∷ 6 ∷ 4 ∷ []))
    ∷ case (numbers (length (points (CrateBox (box 10 100 9 60))) ∷ [])) (numbers (0 ∷ []))
    -- g
    ∷ case (confined_values (W3cBox (box 10 100 9 60))) (numbers (5 ∷ 33 ∷ 5 ∷ 33 ∷ 5 ∷ 33 ∷ 5 ∷ 33 ∷ 10 ∷ 18 ∷ []))
    -- h: y, left stroke, fill, right stroke
    ∷ case (styled_row_values (pos 0) (styled_row (CrateBox (box 10 40 1 20)) (stroked 0 Center) (pos 0)))
    (numbers (0 ∷ 0 ∷ 1 ∷ 1 ∷ 9 ∷ 9 ∷ 10 ∷ []))
    -- i
    ∷ case (styled_row_values (pos 5) (styled_row (CrateBox (box 4 10 0 0)) (stroked 2 Inside) (pos 5)))
    (numbers (5 ∷ 0 ∷ 0 ∷ 0 ∷ 4 ∷ 4 ∷ 4 ∷ []))
    ∷ case (styled_row_values (pos 1) (styled_row (CrateBox (box 4 10 0 0)) (stroked 2 Inside) (pos 1)))
    (numbers (1 ∷ 0 ∷ 4 ∷ 4 ∷ 4 ∷ 4 ∷ 4 ∷ []))
    -- j
    ∷ case (rectangle_values (styled_bounding_box (Ellipse (rectangle 0 0)) (stroked 2 Outside))) (negsuc 0 ∷ negsuc 0 ∷ pos 4 ∷ pos 4 ∷ [])
    ∷ case (rectangle_values (styled_bounding_box (CrateBox (box 5 5 1 1)) (stroked 2 Outside))) (negsuc 1 ∷ negsuc 1 ∷ pos 9 ∷ pos 9 ∷ [])
    -- k
    ∷ case (numbers (outside_width Center 1 ∷ inside_width Center 1 ∷ [])) (numbers (0 ∷ 1 ∷ []))
    ∷ []
