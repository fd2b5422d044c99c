pub mod Blocking
pub mod Emitting
pub mod Putting
pub mod Whole
