pub mod Questions
pub mod Stated
