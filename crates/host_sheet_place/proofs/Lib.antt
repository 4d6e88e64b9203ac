-- The limits of a place's numbers (`Limits`), the stroke area of its layer (`Area`), and the layer's own rules by both
-- (`Rules`).
-- Assumes nothing.
pub mod Limits
pub mod WideEllipse
pub mod Area
pub mod Rules
