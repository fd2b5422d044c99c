pub mod Refusals
pub mod Visits
pub mod Whole
