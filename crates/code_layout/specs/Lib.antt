pub mod Reading
pub mod Layout
pub mod Lies
pub mod Limits
