pub mod Laws
pub mod Steered
