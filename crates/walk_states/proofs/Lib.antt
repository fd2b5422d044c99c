pub mod Following
pub mod Waits
pub mod Telling
