-- `Cases` computes the three steps of a W3C box; `Runs` says that the run of an area has near ends.
-- `Fields` equates boxes by their fields; `Within` carries bounds from a passed check through offsets and confinement; `GrownBox` says
-- what becomes of a W3C box's radii outward.
pub mod Cases
pub mod Runs
pub mod Fields
pub mod Within
pub mod GrownBox
