-- Document 01, 'Sheet' (absent paints and pixels off the canvas are skipped): a run painted onto a row, after the pixel iterators
-- of both `styled.rs`.
-- Assumes nothing.
use Rattle.style.specs.Style.{Paint}
use Rattle.std.specs.Prelude.{cond, List, [], ◌∷◌, ℕ, suc, pos, Some, None}
use Rattle.geometry_range.specs.declared.Range.{Range}
use Rattle.geometry_range.specs.Range.{contains}

-- a byte under a paint: a colour takes its place, an absent paint leaves it
abbrev pub under : Paint → ℕ → ℕ
under None byte = byte
under (Some colour) byte = colour

-- the byte of column x after a run was painted: under the paint where the run holds x
abbrev pub byte_over : Range → Paint → ℕ → ℕ → ℕ
byte_over run paint x byte = cond (contains run (pos x)) (under paint byte) byte

-- the bytes of the columns from x on after a run was painted. Only columns of the row are set: a run may begin before it and
-- end after it
unfoldable pub run_over_from : Range → Paint → ℕ → List ℕ → List ℕ
run_over_from run paint x [] = []
run_over_from run paint x (byte ∷ row) = byte_over run paint x byte ∷ run_over_from run paint (suc x) row

-- a row after a run was painted
abbrev pub run_over : Range → Paint → List ℕ → List ℕ
run_over run paint row = run_over_from run paint 0 row
