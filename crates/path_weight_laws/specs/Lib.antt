pub mod Weights
pub mod Laws
