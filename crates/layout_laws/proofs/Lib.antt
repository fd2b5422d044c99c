pub mod Regions
pub mod Serving
