-- The definitions computed at the ends of their ranges: document 01's case j, sides of 0 and 1, and offsets beyond the side.
-- Assumes nothing.
use mathlib.Core.Path.{◌≡◌, refl}
use mathlib.Core.List.{List, [], ◌∷◌, map}
use Prim.Native.Nat.{ℕ}
use lib.IntN.{ℤ, pos, negsuc}
use Rattle.rectangle.specs.declared.Rectangle.{Rectangle}
use Rattle.rectangle.specs.Rectangle.{center, with_center, offset_side, offset}

abbrev rectangle : ℤ → ℤ → ℕ → ℕ → Rectangle
rectangle x y w h = record { top_left = record { x = x; y = y }; size = record { width = w; height = h } }

-- a rectangle, an offset, and the rectangle that it must give
record Case : Type 0 where
  given : Rectangle
  by : ℤ
  gives : Rectangle

abbrev case : Rectangle → ℤ → Rectangle → Case
case r k e = record { given = r; by = k; gives = e }

abbrev cases : List Case
cases =
    case (rectangle (pos 0) (pos 0) 0 0) (pos 2) (rectangle (negsuc 0) (negsuc 0) 4 4)
    ∷ case (rectangle (pos 0) (pos 0) 5 5) (pos 2) (rectangle (negsuc 1) (negsuc 1) 9 9)
    ∷ case (rectangle (pos 3) (negsuc 3) 0 7) (pos 0) (rectangle (pos 3) (negsuc 3) 0 7)
    ∷ case (rectangle (pos 0) (pos 0) 1 2) (pos 1) (rectangle (negsuc 0) (negsuc 0) 3 4)
    ∷ case (rectangle (pos 0) (pos 0) 1 2) (negsuc 0) (rectangle (pos 0) (pos 0) 0 0)
    ∷ case (rectangle (pos 0) (pos 0) 5 6) (negsuc 1) (rectangle (pos 2) (pos 2) 1 2)
    ∷ case (rectangle (pos 0) (pos 0) 5 6) (negsuc 2) (rectangle (pos 2) (pos 2) 0 0)
    ∷ case (rectangle (pos 0) (pos 0) 5 6) (negsuc 255) (rectangle (pos 2) (pos 2) 0 0)
    ∷ case (rectangle (pos 4096) (negsuc 4095) 1024 1024) (pos 256) (rectangle (pos 3840) (negsuc 4351) 1536 1536)
    ∷ []

cases_hold : map (λ c. offset c.given c.by) cases ≡ map (λ c. c.gives) cases
unfolding center with_center offset_side offset
cases_hold = refl
