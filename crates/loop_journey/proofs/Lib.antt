pub mod Following
pub mod Climbing
pub mod Labels
