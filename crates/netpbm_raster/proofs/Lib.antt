-- `Bits` equates the steps of the code with the definitions, `Rows` has the laws of its loops; `RoundTrip` that packing and unpacking
-- are each
-- the other's way back.
pub mod Bits
pub mod Rows
pub mod RoundTrip
