-- Document 01, 'Sheet': a layer's rows, first, last and left, are those of its stroke area.
-- Assumes nothing.
use Rattle.rectangle.specs.declared.Rectangle.{Rectangle}
use Rattle.rectangle.specs.Rectangle.{rows}
use Rattle.ellipse_rows.specs.EllipsePoints.{row_count}
use Rattle.figure.specs.declared.Figure.{Figure}
use Rattle.shape.specs.declared.Shape.{Shape}
use Rattle.shape.specs.declared.Shape.TheVariants as shape_of
use Rattle.style.specs.declared.Style.{Style}
use Rattle.styled.specs.Styled.{stroke_area}
use Rattle.drawing.specs.declared.StrokeRows.{StrokeRows}

-- a box has every row of its rectangle ('Box rows and points')
abbrev pub box_rows : Rectangle → StrokeRows
box_rows r = record { first = (rows r).start; count = r.size.height }

-- an ellipse has all its rows or none ('Ellipse'); the stroke area's top stands for a first row that it lacks ('Sheet')
abbrev pub ellipse_rows : Rectangle → StrokeRows
ellipse_rows r = record { first = (rows r).start; count = row_count r }

-- by the shape's kind
abbrev pub rows_of_shape : Shape → StrokeRows
rows_of_shape (shape_of.Ellipse r) = ellipse_rows r
rows_of_shape (shape_of.RoundedBox b) = box_rows b.rectangle

-- the rows of a figure's stroke area
unfoldable pub stroke_rows : Figure → Style → StrokeRows
stroke_rows f style = rows_of_shape (stroke_area f style)
