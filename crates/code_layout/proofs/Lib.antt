pub mod Adding
pub mod Lying
