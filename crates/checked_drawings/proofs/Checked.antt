-- The checked drawings hold: each definition computes to what the paper says; and so do our own.
-- Assumes nothing.
use mathlib.Core.Path.{◌≡◌, refl}
use mathlib.Core.List.{map}
use Rattle.rectangle.specs.Rectangle.{center, with_center, offset_side, offset}
use Rattle.scanline.specs.Columns.{first_column, last_column}
use Rattle.scanline.specs.Points.{run_points, points_from, entries}
use Rattle.ellipse.specs.Ellipse.{center2x, from_center2x, threshold, inside, inside_about}
use Rattle.ellipse_rows.specs.EllipsePoints.{scanline, has_rows, row as ellipse_row, row_count}
use Rattle.corner.specs.Edge.{overlap, further_over, tighter, some_over}
use Rattle.corner.specs.Corner.{offset_radius, offset_corner, scaled_corner}
use Rattle.corner.specs.Growth.{ceil_div, grown_radius, grown_corner}
use Rattle.corner_radii.specs.CornerRadii.{offset as corner_radii_offset, grown, spread, scaled, reduced_by, reduced, confine, confine_w3c}
use Rattle.rounded_rectangle.specs.Quadrants.{inside_top_left, inside_top_right, inside_bottom_right, inside_bottom_left}
use Rattle.rounded_rectangle.specs.RoundedRectangle.{contains, run_start, run_end, row}
use Rattle.figure.specs.Figure.{confined, confined_w3c, offset_box, spread_box, points_of_shape}
use Rattle.ellipse_styled.specs.EllipseStyled.{ellipse_styled_row}
use Rattle.box_fill.specs.BoxFill.{fill_run}
use Rattle.styled_row.specs.StyledRow.{box_styled_row, styled_row_of_shapes}
use Rattle.style.specs.Style.{outside_stroke_width, inside_stroke_width}
use Rattle.checked_drawings.specs.Cases.{count_rows, cases}
use Rattle.checked_drawings.specs.OwnCases.{own_cases}

pub checked_drawings : map (λ c. c.drawn) cases ≡ map (λ c. c.said) cases
unfolding count_rows entries ellipse_row offset_radius offset_corner corner_radii_offset contains offset_box center with_center offset_side offset
    first_column last_column run_points points_from center2x from_center2x threshold inside inside_about scanline has_rows row_count scaled_corner
    scaled reduced_by reduced overlap further_over tighter some_over confine confine_w3c inside_top_left inside_top_right inside_bottom_right
    inside_bottom_left run_start run_end row confined confined_w3c points_of_shape ellipse_styled_row fill_run box_styled_row styled_row_of_shapes
    outside_stroke_width inside_stroke_width
checked_drawings = refl

-- drawings of our own
pub own_drawings : map (λ c. c.drawn) own_cases ≡ map (λ c. c.said) own_cases
unfolding entries ellipse_row offset_radius offset_corner corner_radii_offset contains offset_box center with_center offset_side offset
    ceil_div grown_radius grown_corner grown spread spread_box
    first_column last_column run_points points_from center2x from_center2x threshold inside inside_about scanline has_rows row_count scaled_corner
    scaled reduced_by reduced overlap further_over tighter some_over confine confine_w3c inside_top_left inside_top_right inside_bottom_right
    inside_bottom_left run_start run_end row confined confined_w3c points_of_shape ellipse_styled_row fill_run box_styled_row styled_row_of_shapes
    outside_stroke_width inside_stroke_width
own_drawings = refl
