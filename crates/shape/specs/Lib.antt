pub mod Shape
pub mod Bounds
pub mod BoxBounds
pub mod BoxRules
pub mod GrownBox
