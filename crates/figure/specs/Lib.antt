pub mod Figure
pub mod Bounds
pub mod Calls
