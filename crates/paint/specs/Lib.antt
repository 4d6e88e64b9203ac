pub mod Paint
