-- `Fields` equates styled runs by their ends; `Rows` carries the paper's signed columns to places.
pub mod Fields
pub mod Rows
