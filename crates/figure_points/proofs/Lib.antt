-- `Listed` has the laws of a shape's points, counted and written row by row.
pub mod Listed
