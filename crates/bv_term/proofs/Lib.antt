pub mod Narrow
pub mod Growing
pub mod Rows
pub mod Bounds
pub mod Staying
pub mod Continuing
