-- `Sides`: rows whose two sides are alike, and rows with straight sides.
pub mod Sides
