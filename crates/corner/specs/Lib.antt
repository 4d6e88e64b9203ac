pub mod Bounds
pub mod Corner
pub mod EdgeBounds
pub mod Edge
pub mod Growth
