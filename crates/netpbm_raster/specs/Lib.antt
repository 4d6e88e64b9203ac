pub mod Raster
pub mod Steps
pub mod RoundTrip
