-- `File` has the laws of the file that is written, `RoundTrip` that it reads back; `Pictures` computes the definitions at document 01's
-- picture and at the ends.
pub mod File
pub mod RoundTrip
pub mod Pictures
