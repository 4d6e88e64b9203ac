-- What an accepted call says of the sheet given, and what the numbers are after a call.
-- Assumes nothing.
mod Accepted
pub mod NumbersAfter
mod Unused
