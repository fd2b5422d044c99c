pub mod Counting
pub mod Trees
pub mod Moving
pub mod Settling
pub mod Short
