pub mod Errors
pub mod Visits
