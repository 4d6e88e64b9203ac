pub mod Bounds
pub mod CornerRadii
pub mod Fraction
