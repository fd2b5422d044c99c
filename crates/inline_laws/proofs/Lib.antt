pub mod Copies
pub mod Safe
