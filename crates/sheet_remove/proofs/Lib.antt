-- `Moved`: the places moved down. `Restored`: the canvas by rows, step by step.
pub mod Moved
pub mod Restored
