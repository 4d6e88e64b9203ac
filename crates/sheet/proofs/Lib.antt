-- The record after a call as the sheet of `book`'s definitions (`Records`); demand 3 for lists of `Sheet`'s own calls, with the
-- rules that such lists keep (`SheetDemand3`); and the table's examples computed (`Examples`).
-- Assumes nothing.
pub mod Records
pub mod SheetDemand3
pub mod Examples
