-- Figures and styles written as numbers, as a host gives them: which numbers are one, and which one they are. Document 01 has the
-- records and not their numbers.
--     a figure, 13 numbers:   0              0 ellipse, 1 crate box, 2 W3C box
--                             1, 2, 3, 4     x, y, width, height
--                             5 to 12        the radii's width and height, top-left, top-right, bottom-right, bottom-left
--     a style, 4 numbers:     0, 1           stroke and fill: −1 absent, 0 to 255 a colour
--                             2, 3           stroke width; alignment, 0 Inside, 1 Center, 2 Outside
-- An ellipse's radii are not looked at, but must not be negative. Numbers are i32: sides, radii and stroke widths of 2^31 and more,
-- which the calls take too and refuse, cannot be written.
-- Assumes nothing.
use Rattle.style.specs.Style.{Paint}
use Rattle.std.specs.Prelude.{Bool, true, cond, ◌&&◌, List, [], ◌∷◌, ℕ, zero, suc, ◌+◌, ◌-◌, ◌%◌, eqb, ℤ, pos, negsuc, length, take, drop, get_or, Some, None}
use Rattle.std.specs.Int.Signed.{le_z, lt_z}
use Rattle.signed.specs.Signed.{floor0}
use Rattle.geometry.specs.declared.Size.{Size}
use Rattle.rectangle.specs.declared.Rectangle.{Rectangle}
use Rattle.corner_radii.specs.declared.CornerRadii.{CornerRadii}
use Rattle.rounded_rectangle.specs.declared.RoundedRectangle.{RoundedRectangle}
use Rattle.figure.specs.declared.Figure.{Figure}
use Rattle.figure.specs.declared.Figure.TheVariants.{Ellipse, CrateBox, W3cBox}
use Rattle.style.specs.declared.StrokeAlignment.{StrokeAlignment}
use Rattle.style.specs.declared.StrokeAlignment.TheVariants.{Inside, Center, Outside}
use Rattle.style.specs.declared.Style.{Style}

-- how many numbers a figure has, and a style
abbrev pub figure_length : ℕ
figure_length = 13

abbrev pub style_length : ℕ
style_length = 4

-- where a figure's numbers stand; the radii's are the last eight
abbrev pub kind_at : ℕ
kind_at = 0

abbrev pub x_at : ℕ
x_at = 1

abbrev pub y_at : ℕ
y_at = 2

abbrev pub width_at : ℕ
width_at = 3

abbrev pub height_at : ℕ
height_at = 4

abbrev pub radii_at : ℕ
radii_at = 5

-- where a style's numbers stand
abbrev pub stroke_at : ℕ
stroke_at = 0

abbrev pub fill_at : ℕ
fill_at = 1

abbrev pub stroke_width_at : ℕ
stroke_width_at = 2

abbrev pub alignment_at : ℕ
alignment_at = 3

-- the kinds of a figure
abbrev pub ellipse_kind : ℤ
ellipse_kind = pos 0

abbrev pub crate_box_kind : ℤ
crate_box_kind = pos 1

abbrev pub w3c_box_kind : ℤ
w3c_box_kind = pos 2

-- the alignments of a stroke
abbrev pub inside_alignment : ℤ
inside_alignment = pos 0

abbrev pub center_alignment : ℤ
center_alignment = pos 1

abbrev pub outside_alignment : ℤ
outside_alignment = pos 2

-- no paint, which is one below the lowest colour, and the highest colour
abbrev pub absent_paint : ℤ
absent_paint = negsuc 0

abbrev pub max_colour : ℤ
max_colour = pos 255

-- the k-th of some numbers
abbrev pub number_at : List ℤ → ℕ → ℤ
number_at numbers k = get_or numbers k (pos 0)

-- n things from the j-th on, and whether a test holds for each of them
unfoldable pub list_from : {A : Type 0} → (ℕ → A) → ℕ → ℕ → List A
list_from f j zero = []
list_from f j (suc n) = f j ∷ list_from f (suc j) n

unfoldable pub all_from : (ℕ → Bool) → ℕ → ℕ → Bool
all_from test j zero = true
all_from test j (suc n) = test j && all_from test (suc j) n

-- ---- Which numbers are a record.

-- v is from low to high
abbrev pub within : ℤ → ℤ → ℤ → Bool
within low high v = le_z low v && le_z v high

-- none is negative
unfoldable pub none_negative : List ℤ → Bool
none_negative [] = true
none_negative (v ∷ rest) = le_z (pos 0) v && none_negative rest

-- the numbers of a figure
unfoldable pub is_figure : List ℤ → Bool
is_figure numbers =
    eqb (length numbers) figure_length
    && (within ellipse_kind w3c_box_kind (number_at numbers kind_at) && none_negative (take (figure_length - width_at) (drop width_at numbers)))

-- the numbers of a style
unfoldable pub is_style : List ℤ → Bool
is_style numbers =
    eqb (length numbers) style_length
    && (within absent_paint max_colour (number_at numbers stroke_at) && (within absent_paint max_colour (number_at numbers fill_at)
    && (le_z (pos 0) (number_at numbers stroke_width_at) && within inside_alignment outside_alignment (number_at numbers alignment_at))))

-- ---- Which record it is, by the numbers above.

-- a paint
unfoldable pub paint_of : ℤ → Paint
paint_of v = cond (lt_z v (pos 0)) None (Some (floor0 v % 256))

-- an alignment
unfoldable pub alignment_of : ℤ → StrokeAlignment
alignment_of v = cond (lt_z v center_alignment) Inside (cond (lt_z v outside_alignment) Center Outside)

-- a size
abbrev pub size_of : ℤ → ℤ → Size
size_of w h = record { width = floor0 w; height = floor0 h }

-- a figure's rectangle
abbrev pub rectangle_of : List ℤ → Rectangle
rectangle_of numbers =
    record {
      top_left = record { x = number_at numbers x_at; y = number_at numbers y_at };
      size = size_of (number_at numbers width_at) (number_at numbers height_at);
    }

-- its radii
abbrev pub corners_of : List ℤ → CornerRadii
corners_of numbers =
    record {
      top_left = size_of (number_at numbers radii_at) (number_at numbers (radii_at + 1));
      top_right = size_of (number_at numbers (radii_at + 2)) (number_at numbers (radii_at + 3));
      bottom_right = size_of (number_at numbers (radii_at + 4)) (number_at numbers (radii_at + 5));
      bottom_left = size_of (number_at numbers (radii_at + 6)) (number_at numbers (radii_at + 7));
    }

-- both as a box
abbrev pub box_of : List ℤ → RoundedRectangle
box_of numbers = record { rectangle = rectangle_of numbers; corners = corners_of numbers }

-- the figure
unfoldable pub figure_of : List ℤ → Figure
figure_of numbers =
    cond (lt_z (number_at numbers kind_at) crate_box_kind) (Ellipse (rectangle_of numbers))
    (cond (lt_z (number_at numbers kind_at) w3c_box_kind) (CrateBox (box_of numbers)) (W3cBox (box_of numbers)))

-- the style
unfoldable pub style_of : List ℤ → Style
style_of numbers =
    record {
      stroke = paint_of (number_at numbers stroke_at);
      fill = paint_of (number_at numbers fill_at);
      stroke_width = floor0 (number_at numbers stroke_width_at);
      alignment = alignment_of (number_at numbers alignment_at);
    }
