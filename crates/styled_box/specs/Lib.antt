pub mod ReadyBox
