-- Numbers read from a list, a walk over it, and the length of a record.
-- Assumes nothing.
pub mod Walks
pub mod Records
