pub mod Ellipse
pub mod Relative
pub mod Row
