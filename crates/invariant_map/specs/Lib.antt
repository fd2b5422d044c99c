pub mod Copies
pub mod Labels
