-- Document 02, 'Four': how a corner of a W3C box grows. The rule is that of CSS Backgrounds and Borders Module Level 3 for the corners of
-- a shadow that spreads (`box-shadow`): where the radius r is below the spread distance k, k is first multiplied by 1 + (r / k − 1)³.
-- So r becomes r + k − (k − r)³ / k²; rounding it down is ours.
-- Assumes nothing.
use Rattle.std.specs.Prelude.{◌≡◌, cond, [], ◌∷◌, map, ℕ, ◌+◌, ◌-◌, ◌*◌, ◌/◌, ◌≤◌, ◌<◌, ltb}
use Rattle.geometry.specs.declared.Size.{Size}

-- ceil(n / m), for m above 0
unfoldable pub ceil_div : ℕ → ℕ → ℕ
ceil_div n m = (n + (m - 1)) / m

-- n³ and n²
abbrev pub cube : ℕ → ℕ
cube n = n * n * n

abbrev pub square : ℕ → ℕ
square n = n * n

-- a radius number r grown by k: below k it becomes r + k − ceil((k − r)³ / k²), otherwise r + k
unfoldable pub grown_radius : ℕ → ℕ → ℕ
grown_radius k r = cond (ltb r k) (r + k - ceil_div (cube (k - r)) (square k)) (r + k)

-- both numbers of a corner
unfoldable pub grown_corner : ℕ → Size → Size
grown_corner k r = record { width = grown_radius k r.width; height = grown_radius k r.height }

-- ---- for a reader: what follows from the rule, for every r and k (proofs/Growth.antt)
-- c is n / m rounded up: the least number with n ≤ c × m
pub record RoundedUp (n m c : ℕ) : Type 0 where
  pub enough : n ≤ c * m
  pub least : (d : ℕ) → n ≤ d * m → c ≤ d

pub record Growth (k r : ℕ) : Type 0 where
  -- what is taken off is rounded up, and nothing is cut off at 0
  pub rounded_up : r < k → RoundedUp (cube (k - r)) (square k) (ceil_div (cube (k - r)) (square k))
  pub exact : r < k → grown_radius k r + ceil_div (cube (k - r)) (square k) ≡ r + k
  -- 0 remains 0
  pub sharp : grown_radius k 0 ≡ 0
  -- from k on a radius number grows by all of k
  pub whole : k ≤ r → grown_radius k r ≡ r + k
  -- none becomes smaller, or grows by more than k
  pub at_least : r ≤ grown_radius k r
  pub at_most : grown_radius k r ≤ r + k
  -- where r rises the grown number does not fall
  pub monotone : (q : ℕ) → q ≤ r → grown_radius k q ≤ grown_radius k r

-- with k = 4
abbrev pub GrowthByFour : Type 0
GrowthByFour = map (grown_radius 4) (0 ∷ 1 ∷ 2 ∷ 3 ∷ 4 ∷ []) ≡ 0 ∷ 3 ∷ 5 ∷ 6 ∷ 8 ∷ []
