-- Document 01: the styled bounding box (end of 'Rectangle and offset'); the styled rows of a figure ('Styled rows').
-- Assumes nothing.
use Rattle.scanline.specs.Rows.{StyledRow}
use Rattle.std.specs.Prelude.{ℤ, pos}
use Rattle.rectangle.specs.declared.Rectangle.{Rectangle}
use Rattle.rectangle.specs.Rectangle.{offset as rectangle_offset}
use Rattle.figure.specs.declared.Figure.{Figure}
use Rattle.figure.specs.Figure.{own_rectangle}
use Rattle.style.specs.declared.Style.{Style}
use Rattle.style.specs.Style.{outside_stroke_width}
pub use Rattle.styled_areas.specs.Areas.{stroke_area, fill_area}
use Rattle.styled_row.specs.StyledRow.{styled_row_of_shapes}

-- the styled bounding box: the rectangle offset by the outside width
abbrev pub styled_bounding_box : Figure → Style → Rectangle
styled_bounding_box f style = rectangle_offset (own_rectangle f) (pos (outside_stroke_width style))

-- the styled row at y; 'no row' where the stroke area lacks it
abbrev pub styled_row : Figure → Style → ℤ → StyledRow
styled_row f style y = styled_row_of_shapes (stroke_area f style) (fill_area f style) y
