-- What a paint call finds (`Asked`).
pub mod Asked
