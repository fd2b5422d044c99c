pub mod Unwindings
pub mod Caches
pub mod Settlings
pub mod Units
pub mod Keeping
pub mod WellLabelled
pub mod Steering
pub mod Openings
