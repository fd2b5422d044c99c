pub mod Moves
pub mod Marks
pub mod Copies
pub mod Joins
pub mod Whole
