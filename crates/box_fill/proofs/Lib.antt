-- `Clipped`: a search over a run's columns is one over those that the box has. `Rows`: from the paper's fill run to the code's.
-- `Cases` computes the definition.
pub mod Clipped
pub mod Rows
pub mod Cases
