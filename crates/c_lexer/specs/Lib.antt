pub mod Bytes
pub mod Constants
pub mod Lexed
pub mod Marks
pub mod Scan
pub mod Steps
