pub mod Bound
pub mod Mains
