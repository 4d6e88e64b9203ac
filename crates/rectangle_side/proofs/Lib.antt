-- `Parts` reads an offset side by parts.
pub mod Parts
