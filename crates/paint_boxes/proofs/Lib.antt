-- `Turns`: one styled row on rows at equal distances, and what a turn of the loop over a symmetric box's rows comes to.
pub mod Turns
