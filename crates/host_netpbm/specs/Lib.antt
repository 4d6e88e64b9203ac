pub mod Netpbm
