-- What the calls on rectangles promise: the lowest of the refusals 1, 3 and 5 that applies, else the values of `Rectangle`.
-- Assumes nothing.
use Rattle.std.specs.Prelude.{List, [], ◌∷◌, ℤ, pos, Result}
use Rattle.geometry.specs.declared.Point.{Point}
use Rattle.geometry.specs.declared.Size.{Size}
use Rattle.geometry_range.specs.declared.Range.{Range}
use Rattle.rectangle.specs.declared.Rectangle.{Rectangle}
use Rattle.geometry.specs.Checks.{size_check, position_check, offset_check}
use Rattle.rectangle.specs.Rectangle.{center, with_center, rows, columns, offset}
use Rattle.refusal.specs.declared.Refusal.{Refusal}
use Rattle.refusal.specs.Refusal.{Checked, or_else, Outcome, outcome, unless}

-- a point's x and y
abbrev pub point_values : Point → List ℤ
point_values p = p.x ∷ p.y ∷ []

-- a run's two ends, as they are
abbrev pub range_values : Range → List ℤ
range_values r = r.start ∷ r.end ∷ []

-- a rectangle's x, y, width and height
abbrev pub rectangle_values : Rectangle → List ℤ
rectangle_values r = r.top_left.x ∷ r.top_left.y ∷ pos r.size.width ∷ pos r.size.height ∷ []

-- what each answer says
abbrev pub point_outcome : Result Point Refusal → Outcome
point_outcome = outcome point_values

abbrev pub range_outcome : Result Range Refusal → Outcome
range_outcome = outcome range_values

abbrev pub rectangle_outcome : Result Rectangle Refusal → Outcome
rectangle_outcome = outcome rectangle_values

-- 1 and 3 of a rectangle
unfoldable pub rectangle_check : Rectangle → Checked
rectangle_check r = or_else (size_check r.size) (position_check r.top_left)

-- `Rectangle::center`, `rows`, `columns`
abbrev pub center_call : Rectangle → Outcome
center_call r = unless (rectangle_check r) (point_values (center r))

abbrev pub rows_call : Rectangle → Outcome
rows_call r = unless (rectangle_check r) (range_values (rows r))

abbrev pub columns_call : Rectangle → Outcome
columns_call r = unless (rectangle_check r) (range_values (columns r))

-- `Rectangle::with_center`: 3 goes by the rectangle that is made, so every rectangle answered is within limits
abbrev pub with_center_call : Point → Size → Outcome
with_center_call c s =
    unless (or_else (size_check s) (position_check (with_center c s).top_left)) (rectangle_values (with_center c s))

-- `Rectangle::offset`
abbrev pub offset_call : Rectangle → ℤ → Outcome
offset_call r k = unless (or_else (rectangle_check r) (offset_check k)) (rectangle_values (offset r k))
