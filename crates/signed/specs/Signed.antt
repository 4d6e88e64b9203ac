-- Signed numbers as contracts speak of them: parts, ranges, the larger and the smaller of two.
-- Assumes nothing.
use Rattle.std.specs.Prelude.{◌≡◌, cond, ℕ, ◌+◌, ◌-◌, ◌≤◌, ℤ, pos, negsuc}
use Rattle.std.specs.Int.Signed.{lt_z}
use Rattle.std.specs.Int.{w32}
use Rattle.std.proofs.Common.{SFits}

-- z where it is positive, else 0
abbrev pub positive_part : ℤ → ℕ
positive_part (pos n) = n
positive_part (negsuc n) = 0

-- −z where z is negative, else 0: z is its positive part less its negative part
abbrev pub negative_part : ℤ → ℕ
negative_part (pos n) = 0
negative_part (negsuc n) = n + 1

-- z, never below 0: the same as `positive_part`, in the form that `omega` carries over what the machine reads back
abbrev pub floor0 : ℤ → ℕ
floor0 z = positive_part z - negative_part z

-- the larger and the smaller of two
unfoldable pub larger : ℤ → ℤ → ℤ
larger a b = cond (lt_z a b) b a

unfoldable pub smaller : ℤ → ℤ → ℤ
smaller a b = cond (lt_z a b) a b

-- the largest number that an i32 holds; the smallest is one farther from 0
abbrev pub max_i32 : ℕ
max_i32 = 2147483647

-- z is at most n away from 0, and an i32 holds it: what an inner function asks of a coordinate
pub record Near (n : ℕ) (z : ℤ) : Type 0 where
  pub above : positive_part z ≤ negative_part z + n
  pub below : negative_part z ≤ positive_part z + n
  pub fits : SFits w32 z

-- r is z, and an i32 holds it: what a leaf that answers an i32 ensures
pub record Is (z r : ℤ) : Type 0 where
  pub is : r ≡ z
  pub fits : SFits w32 r
