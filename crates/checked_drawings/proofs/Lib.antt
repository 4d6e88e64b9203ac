-- `Checked` shows the cases by computing them.
pub mod Checked
