pub mod Laws
pub mod Verified
