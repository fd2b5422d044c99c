pub mod Visited
pub mod Laws
