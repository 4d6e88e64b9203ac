-- `Walks`: the part of a list that is lent for a call.
pub mod Walks
