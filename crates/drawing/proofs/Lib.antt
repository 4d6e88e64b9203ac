-- `Rows`: the rows of a stroke area by the figure's kind. `PaintRow`: what a figure's row makes of a canvas, by where the row lies.
pub mod Rows
pub mod PaintRow
