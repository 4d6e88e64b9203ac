-- `LentPart` tells what a list holds after a part of it was lent; `Runs` carries runs to columns.
pub mod LentPart
pub mod Runs
