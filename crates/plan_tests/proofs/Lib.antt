pub mod Covering
pub mod Deciding
pub mod Flowing
pub mod Passing
pub mod Uniting
