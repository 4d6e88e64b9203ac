-- `Fields` equates structs by their fields. `Distances`: the test depends on the distances from the middle alone. `Row`: with what
-- depends on the row formed first, it answers the same.
pub mod Fields
pub mod Distances
pub mod Row
