pub mod Laws
pub mod Holds
pub mod Whole
pub mod Known
