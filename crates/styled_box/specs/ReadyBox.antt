-- What a box made ready stands for: its areas, what the code asks of it, and rows that are alike.
-- Assumes nothing.
use Rattle.scanline.specs.Rows.{StyledRow}
use Rattle.std.specs.Prelude.{ℕ, ◌<◌, ℤ, pos, ◌+ℤ◌, ◌≡◌}
use Rattle.rounded_rectangle.specs.declared.RoundedRectangle.{RoundedRectangle}
use Rattle.rounded_rectangle.specs.Relative.{ReadyBox}
use Rattle.box_fill.specs.Relative.{ReadyFill, box_of}
use Rattle.figure.specs.Bounds.{AreaRectangle}
use Rattle.styled_box.specs.declared.RowHints.{RowHints}
use Rattle.styled_box.specs.declared.StyledBox.{StyledBox}

-- the hint of a search that may begin anywhere: no column has this number
abbrev pub anywhere : ℕ
anywhere = 4294967295

-- no hints: every search begins anywhere
abbrev pub no_hints : RowHints
no_hints =
    record { stroke = record { left = anywhere; right = anywhere }; fill = record { left = anywhere; right = anywhere } }

-- the areas that a box made ready stands for
abbrev pub stroke_box : StyledBox → RoundedRectangle
stroke_box b = box_of b.area b.stroke

abbrev pub fill_box : StyledBox → RoundedRectangle
fill_box b = box_of b.inner b.fill

-- a box made ready: the tests have the sizes of their areas
pub record ReadyStyledBox (b : StyledBox) : Type 0 where
  pub area : AreaRectangle b.area
  pub stroke_size : b.area.size ≡ b.stroke.size
  pub stroke : ReadyBox b.stroke
  pub fill : ReadyFill b.inner b.fill

-- the n rows from y on are alike
abbrev pub Alike : (ℤ → StyledRow) → ℤ → ℕ → Type 0
Alike row_at y n = (k : ℕ) → k < n → row_at (y +ℤ pos k) ≡ row_at y
