-- `Within` carries bounds from a passed check through offsets and confinement.
pub mod Within
