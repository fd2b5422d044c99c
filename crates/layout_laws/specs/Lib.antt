pub mod Differ
pub mod Serve
