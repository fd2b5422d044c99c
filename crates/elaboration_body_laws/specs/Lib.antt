pub mod Held
pub mod Told
pub mod Short
pub mod Laws
