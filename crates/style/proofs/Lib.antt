-- `StrokeWidths` has the laws of the two widths and of a passed check; `Boundaries` computes them at the ends of their ranges.
pub mod StrokeWidths
pub mod Boundaries
