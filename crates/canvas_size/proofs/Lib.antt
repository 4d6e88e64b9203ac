-- `Sides` tells what the checks of a canvas say once they have passed.
pub mod Sides
