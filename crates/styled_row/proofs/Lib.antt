-- `EllipseRow`: where the run of an ellipse's row starts.
pub mod EllipseRow
