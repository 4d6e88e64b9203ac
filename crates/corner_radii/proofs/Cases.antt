-- The definitions computed: document 01's cases f and g, sides and radii of 0, ties between edges, offsets and limits at
-- their ends.
-- Assumes nothing.
use Rattle.refusal.specs.Refusal.{passed}
use Rattle.std.specs.Prelude.{Err}
use mathlib.Core.Path.{◌≡◌, refl}
use mathlib.Core.List.{List, [], ◌∷◌, map}
use Prim.Native.Nat.{ℕ}
use lib.IntN.{ℤ, pos, negsuc}
use Rattle.geometry.specs.declared.Size.{Size}
use Rattle.refusal.specs.declared.Refusal.TheVariants.{Radius}
use Rattle.corner_radii.specs.declared.CornerRadii.{CornerRadii}
use Rattle.corner_radii.specs.declared.ConfinedRadii.{ConfinedRadii}
use Rattle.corner.specs.declared.edge.Edge.{Edge}
use Rattle.corner.specs.declared.edge.Edges.{Edges}
use Rattle.corner.specs.Edge.{overlap, further_over, most_over, tighter, tightest, some_over}
use Rattle.corner.specs.Corner.{offset_radius, offset_corner, scaled_corner}
use Rattle.corner.specs.Growth.{ceil_div, grown_radius, grown_corner}
use Rattle.corner_radii.specs.CornerRadii.{equal_radii, radius_check, radii_check, offset, grown, spread, scaled, reduced_by, reduced, confine, confine_w3c}

abbrev size : ℕ → ℕ → Size
size w h = record { width = w; height = h }

-- width and height of each corner, clockwise from top-left
abbrev corners : ℕ → ℕ → ℕ → ℕ → ℕ → ℕ → ℕ → ℕ → CornerRadii
corners a b c d e f g h =
    record { top_left = size a b; top_right = size c d; bottom_right = size e f; bottom_left = size g h }

abbrev all : ℕ → ℕ → CornerRadii
all w h = equal_radii (size w h)

-- ---- confined radii: a box, its radii, and what each rule makes of them, with L and S
record Case : Type 0 where
  box : Size
  radii : CornerRadii
  crate : ConfinedRadii
  w3c : ConfinedRadii

abbrev case : Size → CornerRadii → ConfinedRadii → ConfinedRadii → Case
case b r c w = record { box = b; radii = r; crate = c; w3c = w }

-- radii, L and S
abbrev confined : CornerRadii → ℕ → ℕ → ConfinedRadii
confined r l s = record { radii = r; length = l; sum = s }

abbrev cases : List Case
cases =
    -- f and g
    case (size 10 100) (all 9 60) (confined (all 7 50) 100 120) (confined (all 5 33) 10 18)
    -- nothing overlaps, at the last radius that does not, and one above it
    ∷ case (size 10 100) (all 0 0) (confined (all 0 0) 1 1) (confined (all 0 0) 1 1)
    ∷ case (size 10 100) (all 5 50) (confined (all 5 50) 1 1) (confined (all 5 50) 1 1)
    ∷ case (size 10 100) (all 5 51) (confined (all 4 50) 100 102) (confined (all 4 50) 100 102)
    -- sides of 0: an edge with S = 0 and L = 0 does not decide
    ∷ case (size 0 0) (all 0 0) (confined (all 0 0) 1 1) (confined (all 0 0) 1 1)
    ∷ case (size 0 0) (all 3 4) (confined (all 0 0) 0 8) (confined (all 0 0) 0 6)
    ∷ case (size 0 10) (all 0 5) (confined (all 0 5) 1 1) (confined (all 0 5) 1 1)
    ∷ case (size 0 10) (all 0 8) (confined (all 0 5) 10 16) (confined (all 0 5) 10 16)
    ∷ case (size 10 0) (all 8 0) (confined (all 5 0) 10 16) (confined (all 5 0) 10 16)
    -- top, right, bottom and left decide, each in its turn
    ∷ case (size 10 10) (corners 15 2 5 1 3 1 2 1) (confined (corners 7 1 2 0 1 0 1 0) 10 20) (confined (corners 7 1 2 0 1 0 1 0) 10 20)
    ∷ case (size 10 10) (corners 1 2 1 15 1 5 1 3) (confined (corners 0 1 0 7 0 2 0 1) 10 20) (confined (corners 0 1 0 7 0 2 0 1) 10 20)
    ∷ case (size 10 10) (corners 3 1 2 1 5 1 15 2) (confined (corners 1 0 1 0 2 0 7 1) 10 20) (confined (corners 1 0 1 0 2 0 7 1) 10 20)
    ∷ case (size 10 10) (corners 1 15 1 3 1 2 1 5) (confined (corners 0 7 0 1 0 1 0 2) 10 20) (confined (corners 0 7 0 1 0 1 0 2) 10 20)
    -- equal overlaps on top and right: the top decides the crate rule
    ∷ case (size 10 30) (all 10 20) (confined (all 5 10) 10 20) (confined (all 5 10) 10 20)
    ∷ case (size 30 10) (all 20 10) (confined (all 15 7) 30 40) (confined (all 10 5) 10 20)
    -- a corner that the crate rule leaves wider than its box
    ∷ case (size 10 100) (corners 30 0 0 100 0 100 0 0) (confined (corners 15 0 0 50 0 50 0 0) 100 200)
    (confined (corners 10 0 0 33 0 33 0 0) 10 30)
    -- the largest radii, and those of a stroke area
    ∷ case (size 1024 1024) (all 1024 1024) (confined (all 512 512) 1024 2048) (confined (all 512 512) 1024 2048)
    ∷ case (size 1536 1) (all 1280 1280) (confined (all 0 0) 1 2560) (confined (all 0 0) 1 2560)
    -- equal ratios that are not the same fraction: the first edge decides the W3C rule, and the fraction is not cancelled
    ∷ case (size 10 20) (all 10 20) (confined (all 5 10) 20 40) (confined (all 5 10) 10 20)
    ∷ case (size 20 10) (all 20 10) (confined (all 10 5) 20 40) (confined (all 10 5) 20 40)
    -- and the bottom one before the left one
    ∷ case (size 12 30) (corners 6 20 6 20 20 20 4 40) (confined (corners 3 10 3 10 10 10 2 20) 30 60)
    (confined (corners 3 10 3 10 10 10 2 20) 12 24)
    ∷ []

-- the case with what the definitions make of its radii
abbrev computed : Case → Case
computed c = case c.box c.radii (confine c.radii c.box) (confine_w3c c.radii c.box)

cases_hold : map computed cases ≡ cases
unfolding confine confine_w3c reduced reduced_by scaled scaled_corner some_over tighter further_over overlap
cases_hold = refl

-- ---- ties: four edges, and the edge that decides each rule
record Tie : Type 0 where
  among : Edges
  crate : Edge
  w3c : Edge

-- S and L
abbrev edge : ℕ → ℕ → Edge
edge s l = record { sum = s; length = l }

abbrev tie : Edge → Edge → Edge → Edge → Edge → Edge → Tie
tie a b c d m t = record { among = record { top = a; right = b; bottom = c; left = d }; crate = m; w3c = t }

abbrev ties : List Tie
ties =
    -- equal overlaps
    tie (edge 20 10) (edge 40 30) (edge 50 40) (edge 60 50) (edge 20 10) (edge 20 10)
    ∷ tie (edge 0 10) (edge 40 30) (edge 30 20) (edge 20 10) (edge 40 30) (edge 20 10)
    ∷ tie (edge 0 10) (edge 5 30) (edge 30 20) (edge 20 10) (edge 30 20) (edge 20 10)
    -- equal ratios
    ∷ tie (edge 2 1) (edge 4 2) (edge 6 3) (edge 8 4) (edge 8 4) (edge 2 1)
    ∷ tie (edge 0 0) (edge 4 2) (edge 0 0) (edge 8 4) (edge 8 4) (edge 4 2)
    ∷ tie (edge 0 0) (edge 0 9) (edge 6 3) (edge 4 2) (edge 6 3) (edge 6 3)
    ∷ []

ties_hold : map (λ t. record { among = t.among; crate = most_over t.among; w3c = tightest t.among }) ties ≡ ties
unfolding tighter further_over overlap
ties_hold = refl

-- ---- offset radii: radii, an offset, and the radii that it must give a crate box and a W3C box
record Offset : Type 0 where
  radii : CornerRadii
  by : ℤ
  crate : CornerRadii
  w3c : CornerRadii

abbrev offset_case : CornerRadii → ℤ → CornerRadii → CornerRadii → Offset
offset_case r k c w = record { radii = r; by = k; crate = c; w3c = w }

abbrev offsets : List Offset
offsets =
    offset_case (all 0 7) (pos 0) (all 0 7) (all 0 7)
    ∷ offset_case (all 0 1) (pos 4) (all 4 5) (all 0 3)
    ∷ offset_case (corners 0 1 2 3 4 5 0 4) (pos 4) (corners 4 5 6 7 8 9 4 8) (corners 0 3 5 6 8 9 0 8)
    -- Level 3's own example: 10 + 20 × (1 + (0.5 − 1)³) is 27.5
    ∷ offset_case (all 10 10) (pos 20) (all 30 30) (all 27 27)
    -- one outward leaves every radius above 0 one larger
    ∷ offset_case (corners 0 1 2 3 4 5 6 7) (pos 1) (corners 1 2 3 4 5 6 7 8) (corners 0 2 3 4 5 6 7 8)
    -- inward both go the same way
    ∷ offset_case (corners 2 3 4 0 5 6 1 2) (negsuc 2) (corners 0 0 1 0 2 3 0 0) (corners 0 0 1 0 2 3 0 0)
    ∷ offset_case (all 1024 255) (negsuc 255) (all 768 0) (all 768 0)
    -- the largest offset: (k − r)³ / k² is 256, then 253 and a rest, 32, 1 / 65536 and 0
    ∷ offset_case (all 1024 0) (pos 256) (all 1280 256) (all 1280 0)
    ∷ offset_case (corners 1 128 255 256 1 128 255 256) (pos 256) (corners 257 384 511 512 257 384 511 512)
    (corners 3 352 510 512 3 352 510 512)
    ∷ []

offsets_hold : map (λ c. offset_case c.radii c.by (offset c.radii c.by) (spread c.radii c.by)) offsets ≡ offsets
unfolding offset offset_corner offset_radius spread grown grown_corner grown_radius ceil_div
offsets_hold = refl

-- ---- refusal 2: at the limit, and one above it at each of the eight numbers
abbrev within : CornerRadii
within = all 1024 1024

abbrev above : List CornerRadii
above =
    corners 1025 0 0 0 0 0 0 0
    ∷ corners 0 1025 0 0 0 0 0 0
    ∷ corners 0 0 1025 0 0 0 0 0
    ∷ corners 0 0 0 1025 0 0 0 0
    ∷ corners 0 0 0 0 1025 0 0 0
    ∷ corners 0 0 0 0 0 1025 0 0
    ∷ corners 0 0 0 0 0 0 1025 0
    ∷ corners 0 0 0 0 0 0 0 1025
    ∷ []

checks_hold : map radii_check (within ∷ above) ≡ passed ∷ map (λ _. Err Radius) above
unfolding radii_check radius_check
checks_hold = refl
