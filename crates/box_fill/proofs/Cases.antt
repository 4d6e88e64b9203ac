-- The definition computed: document 01's cases h and i, runs beside the fill area, around it and reversed, rows of its
-- corners, and rows whose contained columns are not one run.
-- Assumes nothing.
use mathlib.Core.Path.{◌≡◌, refl}
use mathlib.Core.List.{List, [], ◌∷◌, map}
use Prim.Native.Nat.{ℕ}
use lib.IntN.{ℤ, pos, negsuc}
use Rattle.geometry.specs.declared.Size.{Size}
use Rattle.geometry_range.specs.declared.Range.{Range}
use Rattle.scanline.specs.Columns.{first_column, last_column}
use Rattle.ellipse.specs.Ellipse.{center2x, from_center2x, threshold, inside, inside_about}
use Rattle.corner_radii.specs.declared.CornerRadii.{CornerRadii}
use Rattle.corner_radii.specs.CornerRadii.{equal_radii}
use Rattle.rounded_rectangle.specs.declared.RoundedRectangle.{RoundedRectangle}
use Rattle.rounded_rectangle.specs.Quadrants.{rectangle_at, inside_top_left, inside_top_right, inside_bottom_right, inside_bottom_left}
use Rattle.rounded_rectangle.specs.RoundedRectangle.{contains}
use Rattle.box_fill.specs.BoxFill.{fill_run}

abbrev size : ℕ → ℕ → Size
size w h = record { width = w; height = h }

-- width and height of each corner, clockwise from top-left
abbrev corners : ℕ → ℕ → ℕ → ℕ → ℕ → ℕ → ℕ → ℕ → CornerRadii
corners a b c d e f g h =
    record { top_left = size a b; top_right = size c d; bottom_right = size e f; bottom_left = size g h }

abbrev all : ℕ → ℕ → CornerRadii
all w h = equal_radii (size w h)

abbrev box : ℤ → ℤ → ℕ → ℕ → CornerRadii → RoundedRectangle
box x y w h c = record { rectangle = rectangle_at x y (size w h); corners = c }

abbrev run : ℤ → ℤ → Range
run s e = record { start = s; end = e }

-- a fill area, a row, the stroke area's run, and the fill that it must give
record Case : Type 0 where
  area : RoundedRectangle
  y : ℤ
  stroke : Range
  gives : Range

abbrev case : RoundedRectangle → ℤ → Range → Range → Case
case b y s g = record { area = b; y = y; stroke = s; gives = g }

abbrev cases : List Case
cases =
    -- h: the row's run is 0..10, its contained columns are 1..9
    case (box (pos 0) (pos 0) 10 40 (all 1 20)) (pos 0) (run (pos 0) (pos 10)) (run (pos 1) (pos 9))
    -- i: a fill area without columns, on its rows all is fill, off them all is left stroke
    ∷ case (box (pos 1) (pos 2) 0 6 (all 0 0)) (pos 5) (run (pos 0) (pos 4)) (run (pos 0) (pos 4))
    ∷ case (box (pos 1) (pos 2) 0 6 (all 0 0)) (pos 1) (run (pos 0) (pos 4)) (run (pos 4) (pos 4))
    ∷ case (box (pos 1) (pos 2) 0 6 (all 0 0)) (pos 2) (run (pos 0) (pos 4)) (run (pos 0) (pos 4))
    ∷ case (box (pos 1) (pos 2) 0 6 (all 0 0)) (pos 7) (run (pos 0) (pos 4)) (run (pos 0) (pos 4))
    ∷ case (box (pos 1) (pos 2) 0 6 (all 0 0)) (pos 8) (run (pos 0) (pos 4)) (run (pos 4) (pos 4))
    -- no rows
    ∷ case (box (pos 0) (pos 0) 4 0 (all 0 0)) (pos 0) (run (pos 0) (pos 4)) (run (pos 4) (pos 4))
    -- a reversed run, on the fill area's rows and off them
    ∷ case (box (pos 0) (pos 0) 8 8 (all 0 0)) (pos 3) (run (pos 6) (pos 4)) (run (pos 6) (pos 4))
    ∷ case (box (pos 0) (pos 0) 8 8 (all 0 0)) (pos 8) (run (pos 6) (pos 4)) (run (pos 4) (pos 4))
    -- a run beside the fill area, on the left and on the right, and next to it
    ∷ case (box (pos 10) (pos 0) 3 3 (all 0 0)) (pos 1) (run (pos 0) (pos 5)) (run (pos 0) (pos 5))
    ∷ case (box (pos 10) (pos 0) 3 3 (all 0 0)) (pos 1) (run (pos 20) (pos 25)) (run (pos 20) (pos 25))
    ∷ case (box (pos 10) (pos 0) 3 3 (all 0 0)) (pos 1) (run (pos 7) (pos 10)) (run (pos 7) (pos 10))
    ∷ case (box (pos 10) (pos 0) 3 3 (all 0 0)) (pos 1) (run (pos 13) (pos 15)) (run (pos 13) (pos 15))
    -- a fill area within the run, around it, and one that overlaps it
    ∷ case (box (pos 3) (pos 1) 4 4 (all 0 0)) (pos 2) (run (pos 0) (pos 10)) (run (pos 3) (pos 7))
    ∷ case (box (pos 3) (pos 1) 4 4 (all 0 0)) (pos 2) (run (pos 4) (pos 6)) (run (pos 4) (pos 6))
    ∷ case (box (pos 3) (pos 1) 4 4 (all 0 0)) (pos 2) (run (pos 5) (pos 10)) (run (pos 5) (pos 7))
    ∷ case (box (pos 3) (pos 1) 4 4 (all 0 0)) (pos 2) (run (pos 0) (pos 5)) (run (pos 3) (pos 5))
    ∷ case (box (negsuc 2) (negsuc 1) 4 4 (all 0 0)) (negsuc 0) (run (negsuc 5) (pos 4)) (run (negsuc 2) (pos 1))
    -- rows of equal corners: the first, the next, the last of the top ones, the last
    ∷ case (box (pos 0) (pos 0) 8 8 (all 4 4)) (pos 0) (run (negsuc 1) (pos 10)) (run (pos 2) (pos 6))
    ∷ case (box (pos 0) (pos 0) 8 8 (all 4 4)) (pos 1) (run (negsuc 1) (pos 10)) (run (pos 1) (pos 7))
    ∷ case (box (pos 0) (pos 0) 8 8 (all 4 4)) (pos 3) (run (negsuc 1) (pos 10)) (run (pos 0) (pos 8))
    ∷ case (box (pos 0) (pos 0) 8 8 (all 4 4)) (pos 7) (run (negsuc 1) (pos 10)) (run (pos 2) (pos 6))
    -- rows of four different corners: top, between, bottom
    ∷ case (box (pos 1) (negsuc 0) 10 9 (corners 3 2 5 4 2 3 4 4)) (negsuc 0) (run (pos 0) (pos 12)) (run (pos 2) (pos 8))
    ∷ case (box (pos 1) (negsuc 0) 10 9 (corners 3 2 5 4 2 3 4 4)) (pos 0) (run (pos 0) (pos 12)) (run (pos 1) (pos 10))
    ∷ case (box (pos 1) (negsuc 0) 10 9 (corners 3 2 5 4 2 3 4 4)) (pos 3) (run (pos 0) (pos 12)) (run (pos 1) (pos 11))
    ∷ case (box (pos 1) (negsuc 0) 10 9 (corners 3 2 5 4 2 3 4 4)) (pos 4) (run (pos 0) (pos 12)) (run (pos 1) (pos 11))
    ∷ case (box (pos 1) (negsuc 0) 10 9 (corners 3 2 5 4 2 3 4 4)) (pos 7) (run (pos 0) (pos 12)) (run (pos 3) (pos 10))
    -- corners that overlap by the crate rule (f)
    ∷ case (box (pos 0) (pos 0) 10 100 (all 7 50)) (pos 0) (run (pos 0) (pos 10)) (run (pos 6) (pos 7))
    ∷ case (box (pos 0) (pos 0) 10 100 (all 7 50)) (pos 20) (run (pos 0) (pos 10)) (run (pos 1) (pos 9))
    ∷ case (box (pos 0) (pos 0) 10 100 (all 7 50)) (pos 99) (run (pos 0) (pos 10)) (run (pos 6) (pos 7))
    -- contained columns that are not one run: column 1, and column 6, are left out between others
    ∷ case (box (pos 0) (pos 0) 8 3 (corners 1 3 1 1 4 0 4 3)) (pos 2) (run (pos 0) (pos 8)) (run (pos 0) (pos 8))
    ∷ case (box (pos 0) (pos 0) 8 3 (corners 1 3 1 1 4 0 4 3)) (pos 2) (run (pos 1) (pos 8)) (run (pos 2) (pos 8))
    ∷ case (box (pos 0) (pos 0) 8 3 (corners 1 3 1 1 4 0 4 3)) (pos 2) (run (pos 1) (pos 2)) (run (pos 1) (pos 2))
    ∷ case (box (pos 0) (pos 0) 8 3 (corners 6 3 1 3 5 2 2 1)) (pos 2) (run (pos 0) (pos 8)) (run (pos 0) (pos 8))
    ∷ case (box (pos 0) (pos 0) 8 3 (corners 6 3 1 3 5 2 2 1)) (pos 2) (run (pos 0) (pos 7)) (run (pos 0) (pos 6))
    ∷ []

cases_hold : map (λ c. fill_run c.area c.y c.stroke) cases ≡ map (λ c. c.gives) cases
unfolding fill_run first_column last_column contains inside_top_left inside_top_right inside_bottom_right inside_bottom_left inside_about inside
    center2x from_center2x threshold
cases_hold = refl
