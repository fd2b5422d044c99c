pub mod Integers
pub mod Names
pub mod Place
