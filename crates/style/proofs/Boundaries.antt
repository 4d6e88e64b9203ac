-- The two widths computed: document 01's case k, and each alignment at the stroke widths 0, 1, 2, 255 and 256.
-- Assumes nothing.
use Rattle.std.specs.Prelude.{None}
use mathlib.Core.Path.{◌≡◌, refl}
use mathlib.Core.List.{List, [], ◌∷◌, map}
use Prim.Native.Nat.{ℕ}
use Rattle.style.specs.declared.StrokeAlignment.{StrokeAlignment}
use Rattle.style.specs.declared.StrokeAlignment.TheVariants.{Inside, Center, Outside}
use Rattle.style.specs.declared.Style.{Style}
use Rattle.style.specs.declared.Widths.{Widths}
use Rattle.style.specs.Style.{styled_by_default, aligned, outside_stroke_width, inside_stroke_width}

-- a style, and the outside and the inside width that it must have
record Case : Type 0 where
  given : Style
  gives : Widths

abbrev case : StrokeAlignment → ℕ → ℕ → ℕ → Case
case alignment s outside inside =
    record { given = aligned (styled_by_default None None s) alignment; gives = record { outside = outside; inside = inside } }

-- case k is Center at 1
abbrev cases : List Case
cases =
    case Inside 0 0 0
    ∷ case Inside 1 0 1
    ∷ case Inside 2 0 2
    ∷ case Inside 255 0 255
    ∷ case Inside 256 0 256
    ∷ case Center 0 0 0
    ∷ case Center 1 0 1
    ∷ case Center 2 1 1
    ∷ case Center 255 127 128
    ∷ case Center 256 128 128
    ∷ case Outside 0 0 0
    ∷ case Outside 1 1 0
    ∷ case Outside 2 2 0
    ∷ case Outside 255 255 0
    ∷ case Outside 256 256 0
    ∷ []

abbrev widths_of : Style → Widths
widths_of style = record { outside = outside_stroke_width style; inside = inside_stroke_width style }

cases_hold : map (λ c. widths_of c.given) cases ≡ map (λ c. c.gives) cases
unfolding outside_stroke_width inside_stroke_width
cases_hold = refl
