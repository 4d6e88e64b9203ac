pub mod CallNumbers
