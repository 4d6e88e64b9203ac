-- `Fields` equates structs by their fields; `Offset` has the laws of offset rectangles; `Checks` tells what a passed check says;
-- `Boundaries` computes the definitions at the ends of their ranges.
pub mod Fields
pub mod Offset
pub mod Checks
pub mod Boundaries
