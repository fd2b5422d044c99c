pub mod Bounds
pub mod Ranging
pub mod Agreeing
pub mod Typing
pub mod Running
