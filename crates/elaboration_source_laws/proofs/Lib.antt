pub mod Offsets
pub mod Programs
pub mod Letters
