-- The part of a list that is lent for a place, and what is read of numbers that were written, or moved.
-- Assumes nothing.
pub mod Parts
pub mod Windows
pub mod ReadBack
pub mod Removed
