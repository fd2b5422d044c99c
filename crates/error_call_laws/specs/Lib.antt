pub mod Reaches
pub mod Laws
