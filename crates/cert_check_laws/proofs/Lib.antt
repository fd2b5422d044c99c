pub mod Accepted
pub mod Faults
pub mod Limits
pub mod Logs
pub mod Refused
pub mod Steps
pub mod Unique
