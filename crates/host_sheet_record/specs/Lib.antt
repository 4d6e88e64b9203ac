pub mod SheetRecord
