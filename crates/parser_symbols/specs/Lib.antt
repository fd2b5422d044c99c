pub mod Keywords
pub mod Marks
pub mod Standard
