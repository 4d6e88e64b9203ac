-- Document 02, 'Two': the box that has its confined radii with their fraction, its test and its rows. They, and its quadrants, are
-- those of the radii alone (`RoundedRectangle`, `Quadrants`): the fraction plays no part in them.
-- Assumes nothing.
use Rattle.scanline.specs.Rows.{Row}
use Rattle.std.specs.Prelude.{Bool, ℤ}
use Rattle.rounded_rectangle.specs.declared.RoundedRectangle.{RoundedRectangle}
use Rattle.rounded_rectangle.specs.declared.ConfinedBox.{ConfinedBox}
use Rattle.rounded_rectangle.specs.RoundedRectangle.{contains as rounded_rectangle_contains, row as rounded_rectangle_row}

-- the box with these radii for its own, without their fraction
abbrev pub plain_box : ConfinedBox → RoundedRectangle
plain_box b = record { rectangle = b.rectangle; corners = b.corners.radii }

-- whether it contains (x, y)
abbrev pub contains : ConfinedBox → ℤ → ℤ → Bool
contains b x y = rounded_rectangle_contains (plain_box b) x y

-- its row at y
abbrev pub row : ConfinedBox → ℤ → Row
row b y = rounded_rectangle_row (plain_box b) y
