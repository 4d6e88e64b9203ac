pub mod Layers
pub mod LayerRows
