pub mod Branching
pub mod Following
pub mod Going
