-- A run painted by unsigned columns, as the code does it: proofs/Runs.antt equates it with `run_over`.
-- Assumes nothing.
use Rattle.std.specs.Prelude.{List, ◌++◌, ℕ, ◌-◌, min, take, drop, replicate}
use Rattle.signed.specs.Signed.{floor0}
use Rattle.geometry_range.specs.declared.Range.{Range}
use Rattle.canvas_run.specs.declared.Columns.{Columns}

-- the columns of a run within 0..width; none of them, from and to alike, where it holds none
unfoldable pub clipped : Range → ℕ → Columns
clipped run width =
    record {
      from = min (floor0 run.start) (min (floor0 run.end) width);
      to = min (floor0 run.end) width;
    }

-- a row with the columns from `from` up to `to` made one colour
unfoldable pub columns_over : ℕ → ℕ → ℕ → List ℕ → List ℕ
columns_over from to colour row = take from row ++ (replicate (to - from) colour ++ drop (to - from) (drop from row))
