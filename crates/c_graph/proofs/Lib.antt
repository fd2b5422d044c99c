pub mod Kept
pub mod Keeping
pub mod Checking
pub mod Chaining
pub mod Marks
pub mod Halving
