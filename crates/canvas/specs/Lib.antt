-- `Canvas` says what a styled row makes of a canvas row; `Nested` says when the code may take the whole run and the fill over it.
pub mod Canvas
pub mod Nested
