-- `Told`: a row told of a box is the styled row of its figure.
pub mod Told
