pub mod Parser
pub mod Capped
