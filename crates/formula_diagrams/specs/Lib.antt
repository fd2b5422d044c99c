pub mod Shape
pub mod Truths
pub mod Joins
pub mod Steps
pub mod Writings
pub mod Laws
