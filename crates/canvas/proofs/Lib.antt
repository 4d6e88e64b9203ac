-- `Overpaint` has the laws of overpainted rows: their length, and what each of their bytes is; `Nested`: the whole run and the fill
-- over it come to the same; `Boundaries` computes rows at the ends of their ranges.
pub mod Overpaint
pub mod Nested
pub mod Boundaries
