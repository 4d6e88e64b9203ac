pub mod Bounds
pub mod Rectangle
pub mod Calls
