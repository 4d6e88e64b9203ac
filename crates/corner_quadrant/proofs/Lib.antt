-- `Within`: the row and the column of what lies within a quadrant. `SideInsets`: the inset of a row by the code's own search, and of a
-- side by its two corners.
pub mod Within
pub mod SideInsets
