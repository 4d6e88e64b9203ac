-- `Corners`: a quadrant's test by distances from its corner of the box. `Contains` and `Rows`: from the paper's signed points and
-- rows to places counted from the corners. `Fields` equates structs by their fields.
pub mod Fields
pub mod Corners
pub mod Contains
pub mod Rows
