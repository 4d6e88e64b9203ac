-- `Straight`: the row of a box that no corner touches, and how far the corners of its areas reach.
pub mod Straight
