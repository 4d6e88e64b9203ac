pub mod Cases
pub mod OwnCases
