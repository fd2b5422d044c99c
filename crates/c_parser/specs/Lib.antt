pub mod Reading
pub mod Settling
pub mod Skipping
pub mod StateView
