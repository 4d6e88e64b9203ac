-- `InTurn`: rows painted one after another, and the loop that does it. `Mirror`: an ellipse's rows in pairs.
-- Assumes nothing.
pub mod InTurn
pub mod Mirror
