-- `Header` has the laws of the header.
pub mod Header
