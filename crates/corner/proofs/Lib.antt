-- `Offset` reads an offset radius by parts; `Growth` has the laws of a W3C corner's growth.
-- `MostOver` and `Tightest` have the laws of the edges that decide the two rules.
pub mod Offset
pub mod Growth
pub mod MostOver
pub mod Tightest
