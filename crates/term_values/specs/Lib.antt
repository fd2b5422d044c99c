pub mod Steps
pub mod Cones
pub mod Parts
