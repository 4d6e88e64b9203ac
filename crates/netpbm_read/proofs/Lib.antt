-- `Reading` has the laws of the check that a read makes; `Examples` computes the definitions.
pub mod Reading
pub mod Examples
