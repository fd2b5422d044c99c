pub mod Aims
pub mod Laws
