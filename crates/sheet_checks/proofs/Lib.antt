-- The places of a sheet and its rules (`Places`), and the answers test by test (`Answers`).
-- Assumes nothing.
pub mod Places
pub mod Answers
