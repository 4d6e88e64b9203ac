pub mod CanvasSize
