pub mod Netpbm
pub mod RoundTrip
