-- `Run` says what a run makes of a canvas row; `Columns` says the same by the columns that the code sets.
pub mod Run
pub mod Columns
