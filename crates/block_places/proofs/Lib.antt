pub mod Covering
pub mod Deciding
