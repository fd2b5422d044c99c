mod Compared
pub mod Same
pub mod Steps
pub mod Whole
