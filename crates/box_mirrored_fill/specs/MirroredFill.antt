-- The fill of a row whose contained columns are one run, as far from either edge: proofs/MirroredFill.antt equates it with `row_fill`.
-- Assumes nothing.
use Rattle.std.specs.Prelude.{cond, ℕ, ◌-◌, min, max, ltb, ℤ, pos, ◌+ℤ◌}
use Rattle.geometry_range.specs.declared.Range.{Range}
use Rattle.box_fill.specs.Relative.{place_in}

-- the fill of a row of w columns from `left` on whose contained columns are those between the first k and the last k
unfoldable pub fill_between : ℤ → ℕ → Range → ℕ → Range
fill_between left w run k =
    let first = max (place_in left w run.start) k in
    let end = min (place_in left w run.end) (w - k) in
    cond (ltb first end) (record { start = left +ℤ pos first; end = left +ℤ pos end }) run
