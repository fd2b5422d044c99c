pub mod Notes
pub mod Walk
pub mod Minimizing
