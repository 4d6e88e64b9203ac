-- Helps on tests and lists (`Tests`, `EachLaws`, `Lists`); the canvas (`CanvasRows`); the rows of an entry (`EntryRows`);
-- the test of the rules (`RulesTest`) and the answers of a sheet (`LowestNumber`). The invariant: what the answers need
-- (`BookInOrder`, `SheetOfBook`), what the picture needs (`Picture`). The theorem (`Demand3`), and for the crates above: an
-- item painted whole (`Whole`), also row by row (`WholeRows`). The rules kept from any sheet that keeps them (`RulesKept`).
-- `Examples` computes the definitions.
-- Assumes nothing.
pub mod Tests
pub mod EachLaws
pub mod Lists
pub mod CanvasRows
pub mod EntryRows
pub mod RulesTest
pub mod LowestNumber
pub mod BookInOrder
pub mod SheetOfBook
pub mod RulesKept
pub mod Picture
pub mod Demand3
pub mod Whole
pub mod WholeRows
pub mod Examples
