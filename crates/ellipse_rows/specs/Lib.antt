pub mod EllipsePoints
pub mod Relative
