pub mod Search
pub mod Row
