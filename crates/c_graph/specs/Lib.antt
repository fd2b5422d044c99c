pub mod Shape
pub mod Chains
pub mod Stores
pub mod Steps
pub mod Runs
pub mod Functions
pub mod Parts
