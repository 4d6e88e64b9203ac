pub mod BoxFill
pub mod Relative
