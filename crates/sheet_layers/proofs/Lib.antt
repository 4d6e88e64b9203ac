-- `LayerRules`: the rules of layers by their rows; `RowTests`: the tests of rows as the code makes them.
pub mod LayerRules
pub mod RowTests
