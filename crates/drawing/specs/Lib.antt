-- `Rows` says which rows a styled figure has; `Drawing` puts figures, styles and canvas rows into the book of demand 3.
pub mod Rows
pub mod Drawing
