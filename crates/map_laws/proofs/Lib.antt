pub mod Placing
pub mod Inductive
