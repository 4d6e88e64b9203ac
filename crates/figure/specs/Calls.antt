-- What the calls on figures promise: the lowest of the refusals 1, 2, 3, 4 and 5 that applies, else the values of `Figure`.
-- Assumes nothing.
use Rattle.scanline.specs.Rows.{Row}
use Rattle.std.specs.Prelude.{Bool, true, false, List, [], ◌∷◌, ◌++◌, ℤ, pos, Option, Some, None, Result}
use Rattle.geometry.specs.declared.Point.{Point}
use Rattle.geometry.specs.declared.Size.{Size}
use Rattle.refusal.specs.declared.Refusal.{Refusal}
use Rattle.refusal.specs.Refusal.{Checked, passed, or_else, Outcome, outcome, any_values, unless}
use Rattle.rectangle.specs.Calls.{range_values, rectangle_values}
use Rattle.geometry.specs.Checks.{size_check, position_check, asked_check, point_check, offset_check}
use Rattle.rectangle.specs.Rectangle.{with_center}
use Rattle.scanline.specs.declared.Scanline.{Scanline}
use Rattle.corner_radii.specs.declared.CornerRadii.{CornerRadii}
use Rattle.corner_radii.specs.declared.ConfinedRadii.{ConfinedRadii}
use Rattle.corner_radii.specs.CornerRadii.{radii_check}
use Rattle.figure.specs.declared.Figure.{Figure}
use Rattle.figure.specs.declared.Figure.TheVariants.{Ellipse, CrateBox, W3cBox}
use Rattle.figure.specs.Figure.{own_rectangle, confined, confined_w3c, offset, contains, row}

-- ---- What is refused of a figure ('The records', the table), number by number.

-- 1: a side above the limit
abbrev pub sides_check : Figure → Checked
sides_check f = size_check (own_rectangle f).size

-- 2: a radius above the limit; an ellipse has none
abbrev pub corners_check : Figure → Checked
corners_check (Ellipse r) = passed
corners_check (CrateBox b) = radii_check b.corners
corners_check (W3cBox b) = radii_check b.corners

-- 3: x or y beyond the limit
abbrev pub place_check : Figure → Checked
place_check f = position_check (own_rectangle f).top_left

-- the lowest of them that applies
abbrev pub figure_check : Figure → Checked
figure_check f = or_else (or_else (sides_check f) (corners_check f)) (place_check f)

-- ---- what each answer says
-- 1 for inside, 0 for outside
abbrev pub flag : Bool → ℤ
flag true = pos 1
flag false = pos 0

abbrev pub contains_outcome : Result Bool Refusal → Outcome
contains_outcome = outcome (λ inside. flag inside ∷ [])

-- a row: its y, and the run's ends as computed; no values for 'no row'
abbrev pub scanline_values : Scanline → List ℤ
scanline_values s = s.y ∷ range_values s.x

abbrev pub row_outcome : Result (Option Scanline) Refusal → Outcome
row_outcome = outcome (any_values scanline_values)

-- the values of the row at y
abbrev pub row_values : ℤ → Row → List ℤ
row_values y (Some r) = scanline_values (record { y = y; x = r })
row_values y None = []

-- radii: width and height of each corner, clockwise from the top-left
abbrev pub size_values : Size → List ℤ
size_values s = pos s.width ∷ pos s.height ∷ []

abbrev pub radii_values : CornerRadii → List ℤ
radii_values r = size_values r.top_left ++ size_values r.top_right ++ size_values r.bottom_right ++ size_values r.bottom_left

-- confined radii: the radii, then L and S of their fraction
abbrev pub confined_radii_values : ConfinedRadii → List ℤ
confined_radii_values c = radii_values c.radii ++ pos c.length ∷ pos c.sum ∷ []

-- a figure: 0, 1 or 2 for its kind, then its rectangle and a box's radii
abbrev pub figure_values : Figure → List ℤ
figure_values (Ellipse r) = pos 0 ∷ rectangle_values r
figure_values (CrateBox b) = pos 1 ∷ rectangle_values b.rectangle ++ radii_values b.corners
figure_values (W3cBox b) = pos 2 ∷ rectangle_values b.rectangle ++ radii_values b.corners

abbrev pub figure_outcome : Result Figure Refusal → Outcome
figure_outcome = outcome figure_values

-- no values where the figure has no corners
abbrev pub radii_outcome : Result (Option ConfinedRadii) Refusal → Outcome
radii_outcome = outcome (any_values confined_radii_values)

-- ---- the calls
-- `contains`: 1, 2, 3, 4
abbrev pub contains_call : Figure → Point → Outcome
contains_call f p = unless (or_else (figure_check f) (point_check p)) (flag (contains f p) ∷ [])

-- `row`: 1, 2, 3, 4
abbrev pub row_call : Figure → ℤ → Outcome
row_call f y = unless (or_else (figure_check f) (asked_check y)) (row_values y (row f y))

-- `offset`: 1, 2, 3, 5
abbrev pub figure_offset_call : Figure → ℤ → Outcome
figure_offset_call f k = unless (or_else (figure_check f) (offset_check k)) (figure_values (offset f k))

-- the confined radii with their fraction: 1, 2, 3
abbrev pub confined_values : Figure → List ℤ
confined_values (Ellipse r) = []
confined_values (CrateBox b) = confined_radii_values (confined b).corners
confined_values (W3cBox b) = confined_radii_values (confined_w3c b).corners

abbrev pub confined_radii_call : Figure → Outcome
confined_radii_call f = unless (figure_check f) (confined_values f)

-- an ellipse about a centre: 1, and 3 for the rectangle that is made
abbrev pub ellipse_with_center_call : Point → Size → Outcome
ellipse_with_center_call c s =
    unless (or_else (size_check s) (position_check (with_center c s).top_left)) (figure_values (Ellipse (with_center c s)))
