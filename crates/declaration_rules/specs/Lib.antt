pub mod Twice
pub mod Earlier
pub mod Mains
pub mod Laws
