-- Document 02, 'Three': the test with what depends on the row alone formed first. Laws of proofs/Row.antt equate it with
-- `below_threshold` and with the paper's test.
-- Assumes nothing.
use Rattle.std.specs.Prelude.{◌≡◌, Bool, ℕ, ◌-◌, ◌*◌, ◌≤◌, ltb, ℤ, nat_abs}
use Rattle.ellipse.specs.declared.EllipseContains.{EllipseContains}
use Rattle.ellipse.specs.declared.RowContains.{RowContains}
use Rattle.ellipse.specs.Ellipse.{inside}
use Rattle.ellipse.specs.Relative.{wide_side_square, contains_of}

-- on the row at the distance y: the weight of X², and what the weighted Y² leaves of the bound. Where that is the larger nothing is left
-- (`◌-◌` on ℕ stops at 0), and no column is below it
unfoldable pub on_row : EllipseContains → ℕ → RowContains
on_row c y = record { x_weight = c.x_weight; threshold = c.threshold - c.y_weight * (y * y) }

-- what the functions ask of it
abbrev pub SmallWeight : RowContains → Type 0
SmallWeight row = row.x_weight ≤ wide_side_square

-- inside at the distance x on such a row
unfoldable pub inside_on_row : RowContains → ℕ → Bool
inside_on_row row x = ltb (row.x_weight * (x * x)) row.threshold

-- It answers as the paper's test, at every point, on rows that the ellipse does not reach too. `EllipseContains::new`, `on_row` and
-- `RowContains::contains` promise the three definitions on the left
abbrev pub AnswersOnRows : Type 0
AnswersOnRows = (w h : ℕ) (X Y : ℤ) → inside_on_row (on_row (contains_of w h) (nat_abs Y)) (nat_abs X) ≡ inside w h X Y
