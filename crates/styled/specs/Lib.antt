pub mod Styled
pub mod Calls
