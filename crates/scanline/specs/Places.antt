-- The same searches over places counted from a corner, which the code makes: proofs/Columns.antt carries the one to the other.
-- Assumes nothing.
use Rattle.std.specs.Prelude.{◌≡◌, Bool, true, false, cond, ◌&&◌, ℕ, zero, suc, ◌<◌, ℤ, pos, ◌+ℤ◌, Some, None, Option}
use Rattle.std.specs.Int.Signed.{le_z, lt_z}

-- a place counted from a corner, where a search ends or where a column or row stands, if there is one
abbrev pub Place : Type 0
Place = Option ℕ

-- the first of the n places from k on at which the test holds
unfoldable pub find_from : (ℕ → Bool) → ℕ → ℕ → Place
find_from test zero k = None
find_from test (suc n) k = let rest = find_from test n (suc k) in cond (test k) (Some k) rest

-- the place found, else 0
abbrev pub place_else0 : Place → ℕ
place_else0 (Some k) = k
place_else0 None = 0

-- whether a place was found
abbrev pub is_at : Place → Bool
is_at (Some k) = true
is_at None = false

-- v stands at a place of the n from `first` on, or at none of them
abbrev pub Placed : ℤ → ℕ → ℤ → Place → Type 0
Placed first n v (Some k) = (v ≡ first +ℤ pos k) × (k < n)
Placed first n v None = le_z first v && lt_z v (first +ℤ pos n) ≡ false
