-- `Search`: up to the middle the test, once true, stays true; and a search by the test of the row finds the same.
pub mod Search
