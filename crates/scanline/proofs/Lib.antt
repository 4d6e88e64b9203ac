-- `Find` has the laws of a search over places, `Columns` carries searches over signed columns to it, `Placed` tells what a place
-- says, `Listing` has the laws of points written into a list.
pub mod Find
pub mod Columns
pub mod Placed
pub mod Listing
