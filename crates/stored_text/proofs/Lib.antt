pub mod Lines
pub mod Steps
pub mod Walks
pub mod Exact
pub mod Passing
pub mod Whole
pub mod Written
