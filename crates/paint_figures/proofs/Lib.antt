-- `OnCanvas`: painting the rows of a figure that the canvas has is painting all of them.
-- Assumes nothing.
pub mod OnCanvas
