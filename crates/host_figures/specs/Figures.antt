-- What the calls on figures say to a host that gives numbers: the figure is read from them (`RecordNumbers`), and then it is what
-- the call itself says. What the host is told of that stands in `HostAnswers` (`Tells`).
-- Assumes nothing.
use Rattle.std.specs.Prelude.{List, ℕ, ℤ}
use Rattle.refusal.specs.Refusal.{Outcome}
use Rattle.figure.specs.Calls.{contains_call, row_call, figure_offset_call, confined_radii_call, ellipse_with_center_call}
use Rattle.host_records.specs.RecordNumbers.{is_figure, figure_of}
use Rattle.host_answers.specs.HostAnswers.{of_record}

-- `Figure::contains`
abbrev pub contains_said : List ℤ → ℤ → ℤ → Outcome
contains_said figure x y = of_record (is_figure figure) (contains_call (figure_of figure) (record { x = x; y = y }))

-- `Figure::row`
abbrev pub row_said : List ℤ → ℤ → Outcome
row_said figure y = of_record (is_figure figure) (row_call (figure_of figure) y)

-- `Figure::offset`
abbrev pub offset_said : List ℤ → ℤ → Outcome
offset_said figure k = of_record (is_figure figure) (figure_offset_call (figure_of figure) k)

-- `Figure::confined_radii`
abbrev pub confined_radii_said : List ℤ → Outcome
confined_radii_said figure = of_record (is_figure figure) (confined_radii_call (figure_of figure))

-- `Figure::ellipse_with_center`, of numbers that are not in a record
abbrev pub ellipse_with_center_said : ℤ → ℤ → ℕ → ℕ → Outcome
ellipse_with_center_said x y width height = ellipse_with_center_call (record { x = x; y = y }) (record { width = width; height = height })
