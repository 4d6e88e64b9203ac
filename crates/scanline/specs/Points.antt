-- Document 01, 'Box rows and points' (`Points` of both `points.rs`, `common/scanline.rs`): a figure's rows as a list of points.
-- Assumes nothing.
use Rattle.scanline.specs.Rows.{Row}
use Rattle.std.specs.Prelude.{◌≡◌, true, cond, List, [], ◌∷◌, ◌++◌, ℕ, zero, suc, ℤ, pos, ◌+ℤ◌, ◌-ℤ◌, Some, None}
use Rattle.std.specs.Int.Signed.{le_z}
use Rattle.signed.specs.Signed.{floor0}
use Rattle.geometry.specs.declared.Point.{Point}
use Rattle.geometry_range.specs.declared.Range.{Range}
use Rattle.geometry_range.specs.Range.{is_empty}

-- how many columns a run holds
abbrev pub run_length : Range → ℕ
run_length r = floor0 (r.end -ℤ r.start)

-- both ends of a run keep to the w columns from left on: what callers need of a row's run besides its equation
pub record EndsWithin (left : ℤ) (w : ℕ) (r : Range) : Type 0 where
  pub start_from : le_z left r.start ≡ true
  pub start_to : le_z r.start (left +ℤ pos w) ≡ true
  pub end_from : le_z left r.end ≡ true
  pub end_to : le_z r.end (left +ℤ pos w) ≡ true

abbrev pub RowWithin : ℤ → ℕ → Row → Type 0
RowWithin left w (Some r) = EndsWithin left w r
RowWithin left w None = Unit {0}

-- the points of the n columns from x on in row y
unfoldable pub run_points : ℤ → ℤ → ℕ → List Point
run_points y x zero = []
run_points y x (suc n) = record { x = x; y = y } ∷ run_points y (x +ℤ pos 1) n

-- a row's points and then those of the rows below it; an empty row, and one that is lacking, ends the list
abbrev pub and_below : ℤ → Row → List Point → List Point
and_below y (Some r) below = cond (is_empty r) [] (run_points y r.start (run_length r) ++ below)
and_below y None below = []

-- the points of n rows from y on, row by row, up to the first empty one
unfoldable pub points_from : (ℤ → Row) → ℤ → ℕ → List Point
points_from row y zero = []
points_from row y (suc n) = and_below y (row y) (points_from row (y +ℤ pos 1) n)

-- the list's entries: x, y pairs
unfoldable pub entries : List Point → List ℤ
entries [] = []
entries (p ∷ ps) = p.x ∷ p.y ∷ entries ps
