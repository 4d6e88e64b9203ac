-- `Written` joins writes; `Decimal` has the laws of decimal numbers, `Bytes` those of the bytes of a header's text.
pub mod Written
pub mod Decimal
pub mod Bytes
