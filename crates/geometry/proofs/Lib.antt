-- `Fields` equates structs by their fields; `Checks` tells what a passed check says.
pub mod Fields
pub mod Checks
