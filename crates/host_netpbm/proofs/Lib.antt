-- How long a file may be.
-- Assumes nothing.
mod FileLength
