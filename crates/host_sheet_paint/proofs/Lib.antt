-- The rules of a sheet's numbers by its places (`Rules`), and the answers to a paint call by what is asked of the layers
-- (`Answers`).
-- Assumes nothing.
pub mod Rules
pub mod Answers
