pub mod Opening
pub mod Errors
