pub mod CanvasRow
