pub mod MirroredFill
