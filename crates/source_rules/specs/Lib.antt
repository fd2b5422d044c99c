pub mod Summed
pub mod Cases
