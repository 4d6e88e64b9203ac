-- `Straight`: rows that no corner touches are alike.
pub mod Straight
