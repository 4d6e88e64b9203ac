pub mod EllipseStyled
pub mod Relative
