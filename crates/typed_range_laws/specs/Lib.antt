pub mod Guards
pub mod Ways
pub mod Keeping
pub mod Laws
