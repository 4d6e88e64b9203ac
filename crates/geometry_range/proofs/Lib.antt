-- `Fields` equates runs by their ends.
pub mod Fields
