-- What a figure made ready stands for: its rows, and what the code asks of it.
-- Assumes nothing.
use Rattle.scanline.specs.Rows.{StyledRow}
use Rattle.std.specs.Prelude.{ℤ, Option, Some, None}
use Rattle.ellipse_styled.specs.EllipseStyled.{ellipse_styled_row}
use Rattle.ellipse_styled.specs.Relative.{ReadyEllipse}
use Rattle.styled_row.specs.StyledRow.{box_styled_row}
use Rattle.styled_box.specs.ReadyBox.{stroke_box, fill_box, ReadyStyledBox}
use Rattle.styled_scan.specs.declared.StyledShape.{StyledShape}
use Rattle.styled_scan.specs.declared.StyledShape.TheVariants as styled

-- a figure made ready
abbrev pub Ready : Option StyledShape → Type 0
Ready (Some (styled.Ellipse e)) = ReadyEllipse e
Ready (Some (styled.RoundedBox b)) = ReadyStyledBox b
Ready None = Unit {0}

-- its styled row at y
abbrev pub row_of : Option StyledShape → ℤ → StyledRow
row_of (Some (styled.Ellipse e)) y = ellipse_styled_row e.area e.sides y
row_of (Some (styled.RoundedBox b)) y = box_styled_row (stroke_box b) (fill_box b) y
row_of None y = None
