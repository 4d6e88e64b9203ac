-- `Areas`: an area has the test and the rows of the offset figure.
pub mod Areas
