-- `PaintBy`: what a styled row makes of a canvas, by where the row lies.
pub mod PaintBy
