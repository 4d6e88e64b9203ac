-- `Rows`: the fill of an upper row, rows that mirror each other, and rows that no corner touches.
pub mod Rows
