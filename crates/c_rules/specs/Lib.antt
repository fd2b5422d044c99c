pub mod Examined
pub mod Parts
pub mod Refusals
pub mod Gathered
pub mod Seen
