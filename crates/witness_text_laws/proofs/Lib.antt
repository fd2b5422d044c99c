pub mod Forming
pub mod Steps
pub mod Digits
pub mod Spelled
