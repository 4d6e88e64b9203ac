pub mod Spaced
pub mod Whole
