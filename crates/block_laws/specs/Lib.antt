pub mod Keeping
pub mod Testing
