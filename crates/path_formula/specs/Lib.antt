pub mod Reads
pub mod Needs
pub mod Added
pub mod Paths
pub mod Questions
