pub mod Effects
pub mod Seen
pub mod Touched
