pub mod Weights
pub mod Unjoining
