-- Document 02, 'Two': what the fraction says, for a reader. It follows from the definitions of both rules (proofs/Fraction.antt).
-- Assumes nothing.
use Rattle.std.specs.Prelude.{◌≡◌, ◌≤◌, ◌<◌}
use Rattle.geometry.specs.declared.Size.{Size}
use Rattle.corner.specs.Edge.{IsEdge, FitsEdges}
use Rattle.corner_radii.specs.declared.CornerRadii.{CornerRadii}
use Rattle.corner_radii.specs.declared.ConfinedRadii.{ConfinedRadii}
use Rattle.corner_radii.specs.CornerRadii.{edges, scaled, confine, confine_w3c}

-- the fraction by which the radii given were reduced to a box of this size
pub record FractionOf (given : CornerRadii) (size : Size) (confined : ConfinedRadii) : Type 0 where
  -- where L < S they are those of an edge, as they are
  pub of_edge : confined.length < confined.sum
      → IsEdge (record { sum = confined.sum; length = confined.length }) (edges given size)
  -- each radius is the given one times L / S, floored
  pub by_fraction : confined.radii ≡ scaled confined.length confined.sum given
  -- S > 0, and L ≤ S
  pub sum_above_zero : 0 < confined.sum
  pub length_at_most : confined.length ≤ confined.sum
  -- L and S are 1 and 1 just where no radius changed
  pub one_over_one_lem : confined.length ≡ 1 → confined.sum ≡ 1 → confined.radii ≡ given
  pub unchanged : confined.radii ≡ given → (confined.length ≡ 1) × (confined.sum ≡ 1)
  -- and just where every edge has S ≤ L, as then alone L = S
  pub fits : FitsEdges (edges given size) → (confined.length ≡ 1) × (confined.sum ≡ 1)
  pub fits_if_equal : confined.length ≡ confined.sum → FitsEdges (edges given size)

-- of both rules
pub record Fractions (given : CornerRadii) (size : Size) : Type 0 where
  pub crate_rule : FractionOf given size (confine given size)
  pub w3c_rule : FractionOf given size (confine_w3c given size)
