pub mod Columns
pub mod Places
pub mod Points
pub mod Rows
