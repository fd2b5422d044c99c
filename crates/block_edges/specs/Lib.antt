pub mod Exact
pub mod Covering
pub mod Weights
