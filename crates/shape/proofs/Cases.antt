-- The definitions computed: what becomes of a W3C box's radii in its three steps.
-- Assumes nothing.
use mathlib.Core.Path.{◌≡◌, refl}
use mathlib.Core.List.{List, [], ◌∷◌, map}
use Prim.Native.Nat.{ℕ}
use lib.IntN.{ℤ, pos, negsuc}
use Rattle.geometry.specs.declared.Size.{Size}
use Rattle.rectangle.specs.Rectangle.{center, with_center, offset_side, offset as rectangle_offset}
use Rattle.corner.specs.Edge.{tighter, some_over}
use Rattle.corner.specs.Corner.{offset_radius, offset_corner, scaled_corner}
use Rattle.corner.specs.Growth.{ceil_div, grown_radius, grown_corner}
use Rattle.corner_radii.specs.declared.CornerRadii.{CornerRadii}
use Rattle.corner_radii.specs.CornerRadii.{equal_radii, offset as corner_radii_offset, grown, spread, scaled, reduced_by, confine_w3c}
use Rattle.rounded_rectangle.specs.declared.RoundedRectangle.{RoundedRectangle}
use Rattle.shape.specs.BoxRules.{confined_w3c, spread_box, w3c_area}

abbrev size : ℕ → ℕ → Size
size w h = record { width = w; height = h }

abbrev box : ℕ → ℕ → CornerRadii → RoundedRectangle
box w h r = record { rectangle = record { top_left = record { x = pos 0; y = pos 0 }; size = size w h }; corners = r }

-- square corners but for the one at the top right
abbrev top_right : ℕ → ℕ → CornerRadii
top_right w h =
    record { top_left = size 0 0; top_right = size w h; bottom_right = size 0 0; bottom_left = size 0 0 }

-- a box, an offset, and the radii that it must give
record Case : Type 0 where
  given : RoundedRectangle
  by : ℤ
  made : CornerRadii

abbrev case : RoundedRectangle → ℤ → CornerRadii → Case
case b k r = record { given = b; by = k; made = r }

abbrev cases : List Case
cases =
    -- confined to (5, 33) before it grows
    case (box 10 100 (equal_radii (size 9 60))) (pos 6) (equal_radii (size 10 39))
    -- sharp corners remain sharp, beside a round one too
    ∷ case (box 6 4 (equal_radii (size 0 0))) (pos 4) (equal_radii (size 0 0))
    ∷ case (box 6 4 (top_right 1 1)) (pos 4) (top_right 3 3)
    -- a corner as wide as its box: 3 inward it is 7 wide, its box 4, and it is confined again
    ∷ case (box 10 10 (top_right 10 0)) (negsuc 2) (top_right 4 0)
    ∷ []

cases_hold : map (λ c. case c.given c.by (w3c_area c.given c.by).corners) cases ≡ cases
unfolding confined_w3c spread_box spread grown grown_corner grown_radius ceil_div corner_radii_offset offset_corner offset_radius confine_w3c
    reduced_by scaled scaled_corner some_over tighter rectangle_offset with_center center offset_side
cases_hold = refl
