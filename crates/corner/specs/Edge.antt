-- Document 01, 'Corners': the edges of a box, and the edge that decides each rule (`corner_radii.rs`).
-- Assumes nothing.
use Rattle.std.specs.Prelude.{◌≡◌, ◌⊎◌, Bool, cond, ◌&&◌, ◌||◌, ℕ, ◌-◌, ◌*◌, ◌≤◌, ltb, eqb}
use Rattle.corner.specs.declared.edge.Edge.{Edge}
use Rattle.corner.specs.declared.edge.Edges.{Edges}

-- S is the sum of the two radii along an edge, L its length
abbrev pub S : Edge → ℕ
S e = e.sum

abbrev pub L : Edge → ℕ
L e = e.length

-- an edge of the four
abbrev pub IsEdge : Edge → Edges → Type 0
IsEdge e es = (e ≡ es.top) ⊎ ((e ≡ es.right) ⊎ ((e ≡ es.bottom) ⊎ (e ≡ es.left)))

-- S > L
abbrev pub over : Edge → Bool
over e = ltb (L e) (S e)

-- ---- the edge that decides the crate rule
-- S − L, and 0 where it is not above 0: `◌-◌` on ℕ stops there
unfoldable pub overlap : Edge → ℕ
overlap e = S e - L e

-- of two edges the one with the larger S − L, the first if they are equal
unfoldable pub further_over : Edge → Edge → Edge
further_over first next = cond (ltb (overlap first) (overlap next)) next first

-- the first edge with the largest S − L above 0; the top one if there is none
abbrev pub most_over : Edges → Edge
most_over e = further_over (further_over (further_over e.top e.right) e.bottom) e.left

-- ---- the edge that decides the W3C rule
-- L / S is smaller at e than at e', exactly: L / S < L' / S' where L × S' < L' × S
abbrev pub smaller_ratio : Edge → Edge → Bool
smaller_ratio e e' = ltb (L e * S e') (L e' * S e)

-- of two edges the one with the smaller L / S among those with S > 0, the first if they are equal
unfoldable pub tighter : Edge → Edge → Edge
tighter first next = cond (ltb 0 (S next) && (eqb (S first) 0 || smaller_ratio next first)) next first

-- the first edge with the smallest L / S among those with S > 0
abbrev pub tightest : Edges → Edge
tightest e = tighter (tighter (tighter e.top e.right) e.bottom) e.left

-- some S > L
unfoldable pub some_over : Edges → Bool
some_over e = over e.top || (over e.right || (over e.bottom || over e.left))

-- every edge has S ≤ L: so it is after the W3C rule (`w3c_fits_edges`)
pub record FitsEdges (e : Edges) : Type 0 where
  pub top : S e.top ≤ L e.top
  pub right : S e.right ≤ L e.right
  pub bottom : S e.bottom ≤ L e.bottom
  pub left : S e.left ≤ L e.left
