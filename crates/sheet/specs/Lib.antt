-- The calls one by one (`Sheet`), and demand 3 over lists of calls (`SheetDemand3`).
pub mod Sheet
pub mod SheetDemand3
