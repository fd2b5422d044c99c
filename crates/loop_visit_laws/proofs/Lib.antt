pub mod Asking
pub mod Outermost
pub mod Following
pub mod Loops
