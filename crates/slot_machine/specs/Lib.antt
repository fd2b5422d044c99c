pub mod Shapes
pub mod Loaded
