-- The order to read in: `Book`, `Canvas`, `Sheet`, then the statement, `Demand3`, and `Whole`, an item painted in one call.
-- `Each` is a help on lists.
pub mod Each
pub mod Book
pub mod Canvas
pub mod Sheet
pub mod Demand3
pub mod Whole
