-- Searches over signed columns, as both `points.rs` and both `styled.rs` make them by `find` and `rfind` on a range.
-- Assumes nothing.
use Rattle.std.specs.Prelude.{Bool, cond, ℕ, zero, suc, ℤ, pos, ◌+ℤ◌}

-- a column that was found, or none
pub data Column : Type 0 where
  found : ℤ → Column
  none : Column

-- the first of the n columns from x on at which the test holds (`find`)
unfoldable pub first_column : (ℤ → Bool) → ℤ → ℕ → Column
first_column test x zero = none
first_column test x (suc n) = let rest = first_column test (x +ℤ pos 1) n in cond (test x) (found x) rest

-- the last of the n columns from x on at which the test holds (`rfind`)
unfoldable pub last_column : (ℤ → Bool) → ℤ → ℕ → Column
last_column test x zero = none
last_column test x (suc n) = let rest = last_column test x n in cond (test (x +ℤ pos n)) (found (x +ℤ pos n)) rest

-- the column found, else another (`unwrap_or`)
abbrev pub column_else : ℤ → Column → ℤ
column_else other (found x) = x
column_else other none = other

-- the column after the one found, else another (`map(|x| x + 1).unwrap_or`)
abbrev pub column_after_else : ℤ → Column → ℤ
column_after_else other (found x) = x +ℤ pos 1
column_after_else other none = other
