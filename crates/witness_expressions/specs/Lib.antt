pub mod Names
pub mod Expressions
pub mod Sizes
pub mod Pieces
pub mod Shapes
