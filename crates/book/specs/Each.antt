-- A fact of each element of a list, and of each two elements in order.
-- Assumes nothing.
use Rattle.std.specs.Prelude.{List, [], ◌∷◌}

module _ {A : Type 0} where
  -- P holds of each element (document 01, "Sheet": rules that speak of one layer)
  abbrev pub Each : (A → Type 0) → List A → Type 0
  Each P [] = Unit {0}
  Each P (x ∷ rest) = P x × Each P rest

  -- R holds of each two elements, the earlier first (document 01, "Sheet": the rule on a layer and an earlier one)
  abbrev pub EachTwo : (A → A → Type 0) → List A → Type 0
  EachTwo R [] = Unit {0}
  EachTwo R (x ∷ rest) = Each (R x) rest × EachTwo R rest
