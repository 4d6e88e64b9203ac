-- The rows that later layers have painted, and what they leave to be tested (`Painted`); the walk over the places (`Walk`).
-- Assumes nothing.
pub mod Painted
pub mod Walk
