pub mod SymmetricBox
