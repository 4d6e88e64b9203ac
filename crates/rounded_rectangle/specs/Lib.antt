pub mod Quadrants
pub mod RoundedRectangle
pub mod ConfinedBox
pub mod Relative
