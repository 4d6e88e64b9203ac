-- What a host is told, by what was put into the list.
-- Assumes nothing.
pub mod Telling
