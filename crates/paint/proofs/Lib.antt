-- `Passed`: what a passed check says. `Painted`: painting all of a figure's rows one after another overpaints every canvas row.
-- `SingleLayer`: a sheet with that one layer comes to the same bytes. `Examples`: the oval computed.
-- Assumes nothing.
pub mod Passed
pub mod Painted
pub mod SingleLayer
pub mod Examples
