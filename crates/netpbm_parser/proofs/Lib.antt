-- `Gaps`: whitespace and comments. `Capped`: numbers as far as they are kept. `Headers`: what was written is read.
pub mod Gaps
pub mod Capped
pub mod Headers
