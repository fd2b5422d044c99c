pub mod Inlined
pub mod Joined
