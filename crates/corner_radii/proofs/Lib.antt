-- `Cases` computes document 01's cases f and g, offsets of both boxes and the ends of the ranges; `Fields` equates radii by their
-- corners;
-- `Scaled` has the laws of radii times L / S; `Rules` says by which edge each rule goes, and that the W3C rule makes every edge
-- fit; `Fraction` what the fraction of either rule says; `Spread` how a W3C box's radii are offset; `Bounds` how large radii are after
-- each change; `Checks` what a passed check says.
pub mod Cases
pub mod Fields
pub mod Scaled
pub mod Rules
pub mod Fraction
pub mod Spread
pub mod Bounds
pub mod Checks
