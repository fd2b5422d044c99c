pub mod Ranges
pub mod Fit
