-- `MirroredFill`: the fill of a row whose two sides are alike.
pub mod MirroredFill
