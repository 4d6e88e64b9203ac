pub mod SheetCalls
