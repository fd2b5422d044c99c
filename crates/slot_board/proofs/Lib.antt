pub mod Answering
pub mod Elements
pub mod Shapes
pub mod Computing
pub mod Quick
