pub mod Functions
pub mod Loops
