-- `Searches`: what a search may leave out. `Skips`: the columns that a corner leaves out are not contained.
pub mod Searches
pub mod Skips
