-- `Rows`: from the paper's signed rows and columns to places counted from the box's corner.
pub mod Rows
