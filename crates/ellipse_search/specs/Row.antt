-- The form that the search computes: the test of its row, formed once. The law `column_on_row_lem` of proofs/Search.antt equates it with
-- `column_inside`.
-- Assumes nothing.
use Rattle.std.specs.Prelude.{Bool, ℕ}
use Rattle.ellipse.specs.declared.RowContains.{RowContains}
use Rattle.ellipse.specs.Relative.{gap}
use Rattle.ellipse.specs.Row.{inside_on_row}

-- inside at column k of `width`, on the row of this test
unfoldable pub column_on_row : RowContains → ℕ → ℕ → Bool
column_on_row row width k = inside_on_row row (gap width k)
